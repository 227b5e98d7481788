-- Faults that begin in any cycle of a run, and what two circuits hold and show. (Our own.)
use Rattle.std.specs.Prelude.{◌≡◌, ◌≢◌, ℕ, suc, ◌<◌, Bool, nat_le, if◌then◌else◌}
use Rattle.words.specs.Members.{In}
use Rattle.records.specs.Side.{Domain, Triple}
use Rattle.circuit.specs.Cells.{RegisterCell, PadCell}
use Rattle.circuit.specs.Parts.{OfRegister, Source, output_pads}
use Rattle.circuit.specs.Triples.{PartTriple}
use Rattle.circuit.specs.Circuits.{Circuit}
use Rattle.circuit.specs.Worlds.{World}
use Rattle.circuit.specs.Faults.{Fault, no_fault}
use Rattle.circuit.specs.Runs.{IsCycle, IsStep, IsStart, IsRun}
use Rattle.circuit.specs.Right.{IsRight, TwoOfThree}
use Rattle.circuit.specs.Triplicated.{ReadPart}

-- ---- registers

-- read registers of one name hold one bit in two worlds, one of each circuit
abbrev pub HoldTheSame : Circuit → Circuit → World → World → Type 0
HoldTheSame c e v w = (s u : Source) (q r : RegisterCell) → ReadPart c s → ReadPart e u → s.part ≡ u.part → s.kind ≡ OfRegister q → u.kind ≡ OfRegister r
    → v.part s.part ≡ w.part u.part

-- A circuit holds the bits of another one: from one common start on one input every undisturbed run of the one and every
-- undisturbed run of the other hold in each cycle the same bit in the registers of each name that both read.
abbrev pub HoldsBitsOf : Circuit → Circuit → Type 0
HoldsBitsOf c e = (start : PartTriple → Bool) (input : ℕ → Triple → Bool) (n : ℕ) (v w : ℕ → World) → IsRun c no_fault start input n v → IsRun e no_fault start input n w
    → (t : ℕ) → t < n → HoldTheSame c e (v t) (w t)

-- ---- a fault that begins in a cycle

-- what is disturbed in cycle i where a fault begins in cycle t: nothing before, and from then on what the fault disturbs
abbrev pub fault_in : Fault → ℕ → ℕ → Fault
fault_in f t i = if nat_le t i then f else no_fault

-- A run of n cycles in which a fault begins in cycle t: up to that cycle it is undisturbed, the step into it too, and from
-- then on it is a run under the fault. (Where t is 0 it is a run under the fault, and where t isn't below n an undisturbed one.)
pub record IsRunFrom (c : Circuit) (f : Fault) (t : ℕ) (start : PartTriple → Bool) (input : ℕ → Triple → Bool) (n : ℕ) (run : ℕ → World) : Type 0 where
  pub starts : 0 < n → IsStart c start (run 0)
  pub cycles : (i : ℕ) → i < n → IsCycle c (fault_in f t i) (input i) (run i)
  pub steps : (i : ℕ) → suc i < n → IsStep c (fault_in f t i) (run i) (run (suc i))

-- ---- what is kept

-- In every run of e in which the fault begins in some cycle, each output pad is right by the circuit c in every cycle
-- before.
abbrev pub KeepsAllBefore : Circuit → Circuit → Fault → Type 0
KeepsAllBefore c e f = (t : ℕ) (start : PartTriple → Bool) (input : ℕ → Triple → Bool) (n : ℕ) (run : ℕ → World) → IsRunFrom e f t start input n run → (i : ℕ) → i < n → i < t
    → (p : PadCell) → In (output_pads e.cells) p → IsRight c start input i (run i) p.name

-- In every such run and every cycle, before the fault or from it on, each output pad outside a domain is right by c. The
-- domain is the same for all cycles in which it may begin.
abbrev pub KeepsOutsideFromAnyCycle : Circuit → Circuit → Fault → Domain → Type 0
KeepsOutsideFromAnyCycle c e f d = (t : ℕ) (start : PartTriple → Bool) (input : ℕ → Triple → Bool) (n : ℕ) (run : ℕ → World) → IsRunFrom e f t start input n run → (i : ℕ) → i < n
    → (p : PadCell) → In (output_pads e.cells) p → p.domain ≢ d → IsRight c start input i (run i) p.name

-- In every such run and every cycle at least two of the three pads of each output triple are right by c.
abbrev pub KeepsTwoFromAnyCycle : Circuit → Circuit → Fault → Type 0
KeepsTwoFromAnyCycle c e f = (t : ℕ) (start : PartTriple → Bool) (input : ℕ → Triple → Bool) (n : ℕ) (run : ℕ → World) → IsRunFrom e f t start input n run → (i : ℕ) → i < n
    → (o : Triple) → In e.side.outputs o → TwoOfThree (IsRight c start input i (run i) o.first) (IsRight c start input i (run i) o.second) (IsRight c start input i (run i) o.third)
