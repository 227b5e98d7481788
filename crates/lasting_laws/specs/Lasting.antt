-- What a hardened design keeps of the one that was read at any moment, and what stands behind each word of it. (The aim is
-- RoRA's; the form is our own.)
use Rattle.std.specs.Prelude.{◌≡◌, ℕ, ◌<◌, true, Bool}
use Rattle.patterns.specs.Bits.{DeviceBit}
use Rattle.records.specs.Side.{Domain, Triple}
use Rattle.fabric.specs.MuxBits.{is_mux_bit}
use Rattle.circuit.specs.Triples.{PartTriple}
use Rattle.circuit.specs.Circuits.{Circuit}
use Rattle.circuit.specs.Worlds.{World}
use Rattle.circuit.specs.Faults.{Fault}
use Rattle.circuit.specs.Runs.{IsRun}
use Rattle.circuit.specs.Choices.{Agree, Follows}
use Rattle.circuit.specs.Triplicated.{HasOutputs}
use Rattle.upset.specs.Configured.{Configured, circuit_of}
use Rattle.upset.specs.Effect.{IsEffect}
use Rattle.upset.specs.Safe.{IsMuxFault, only}
use Rattle.commands.specs.Commands.{Inputs, Hardening}
use Rattle.design_files.specs.Parsed.{Files}
use Rattle.design_checks.specs.DesignChecks.{configured_as}
use Rattle.design_answers.specs.Outcomes.{Outcome}
use Rattle.written_laws.specs.Written.{WritesHardened}
use Rattle.moment_laws.specs.Moments.{HoldsBitsOf, KeepsAllBefore, KeepsOutsideFromAnyCycle, KeepsTwoFromAnyCycle}

-- Both circuits hold the same bits in every cycle, and the flip of any one routing-mux bit may come in any cycle: before it
-- each output pad shows what the circuit that was read shows undisturbed; and there is one domain, the same whenever it comes,
-- outside which each output pad shows that in every cycle, so that at least two of each three outputs do, forever.
pub record HardensAtAnyMoment (read written : Configured) : Type 0 where
  pub registers : HoldsBitsOf (circuit_of read) (circuit_of written)
  pub before : (f : Fault) → IsMuxFault written f → KeepsAllBefore (circuit_of read) (circuit_of written) f
  pub outside : (f : Fault) → IsMuxFault written f → (d : Domain) × KeepsOutsideFromAnyCycle (circuit_of read) (circuit_of written) f d
  pub two : (f : Fault) → IsMuxFault written f → KeepsTwoFromAnyCycle (circuit_of read) (circuit_of written) f

-- There is just one run of n cycles under a fault, from a start, on an input, that follows a choice: there is one, and any
-- other agrees with it in each cycle on all that the circuit has.
abbrev pub HasOneRun : Circuit → Fault → (PartTriple → Bool) → (ℕ → Triple → Bool) → (ℕ → World) → ℕ → Type 0
HasOneRun c f start input choice n = (run : ℕ → World) × (IsRun c f start input n run × (Follows c f choice n run
    × ((other : ℕ → World) → IsRun c f start input n other → Follows c f choice n other → (t : ℕ) → t < n → Agree c (run t) (other t))))

-- What is said of a design isn't said of nothing: each of its routing-mux bits has its fault; under each fault, from each
-- start, on each input there is for each choice just one run of each length; and it has an output triple.
pub record SaysSomething (k : Configured) : Type 0 where
  pub faults : (b : DeviceBit) → is_mux_bit k.graph b ≡ true → (f : Fault) × IsEffect k (only b) f
  pub runs : (f : Fault) (start : PartTriple → Bool) (input : ℕ → Triple → Bool) (choice : ℕ → World) (n : ℕ) → HasOneRun (circuit_of k) f start input choice n
  pub outputs : HasOutputs (circuit_of k)

-- a run that writes a text and a side file: the design as which they are read hardens the one that was read at any moment, and
-- what is said of the two isn't said of nothing
pub record IsLasting {files : Files} {inputs : Inputs} {h : Hardening} {o : Outcome} (w : WritesHardened files inputs h o) : Type 0 where
  pub at_any_moment : HardensAtAnyMoment (configured_as w.design w.graph w.cells) (configured_as w.hardened.again w.graph w.hardened.its_cells)
  pub read_says : SaysSomething (configured_as w.design w.graph w.cells)
  pub written_says : SaysSomething (configured_as w.hardened.again w.graph w.hardened.its_cells)
