-- When outputs are right under a fault. (Our own.)
use Rattle.std.specs.Prelude.{◌≡◌, ◌≢◌, ℕ, ◌<◌, Bool, List, ◌⊎◌}
use Rattle.words.specs.Members.{In}
use Rattle.records.specs.Side.{Domain, Triple}
use Rattle.circuit.specs.Cells.{PadCell}
use Rattle.circuit.specs.Parts.{output_pads}
use Rattle.circuit.specs.Triples.{PartTriple}
use Rattle.circuit.specs.Circuits.{Circuit}
use Rattle.circuit.specs.Worlds.{World}
use Rattle.circuit.specs.Faults.{Fault, no_fault}
use Rattle.circuit.specs.Runs.{IsRun}

-- An output pad is right in cycle t when it shows what every undisturbed run from the same start on the same
-- input shows there.
abbrev pub IsRight : Circuit → (PartTriple → Bool) → (ℕ → Triple → Bool) → ℕ → World → List ℕ → Type 0
IsRight c start input t w name = (n : ℕ) (right : ℕ → World) → IsRun c no_fault start input n right → t < n → w.shown name ≡ (right t).shown name

-- In every run of the circuit e under a fault and every cycle, each output pad outside a domain is right by the
-- circuit c.
abbrev pub KeepsOutside : Circuit → Circuit → Fault → Domain → Type 0
KeepsOutside c e f d = (start : PartTriple → Bool) (input : ℕ → Triple → Bool) (n : ℕ) (run : ℕ → World) → IsRun e f start input n run → (t : ℕ) → t < n
    → (p : PadCell) → In (output_pads e.cells) p → p.domain ≢ d → IsRight c start input t (run t) p.name

-- at least two of three
abbrev pub TwoOfThree : Type 0 → Type 0 → Type 0 → Type 0
TwoOfThree A B C = (A × B) ⊎ ((A × C) ⊎ (B × C))

-- In every run of e under a fault and every cycle, at least two of the three pads of each output triple are right by
-- c.
abbrev pub KeepsTwo : Circuit → Circuit → Fault → Type 0
KeepsTwo c e f = (start : PartTriple → Bool) (input : ℕ → Triple → Bool) (n : ℕ) (run : ℕ → World) → IsRun e f start input n run → (t : ℕ) → t < n
    → (o : Triple) → In e.side.outputs o → TwoOfThree (IsRight c start input t (run t) o.first) (IsRight c start input t (run t) o.second) (IsRight c start input t (run t) o.third)

-- by the circuit itself
abbrev pub RightOutside : Circuit → Fault → Domain → Type 0
RightOutside c f d = KeepsOutside c c f d

abbrev pub TwoAreRight : Circuit → Fault → Type 0
TwoAreRight c f = KeepsTwo c c f
