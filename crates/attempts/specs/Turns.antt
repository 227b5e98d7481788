-- One attempt: the connections of an order get their paths in turn, each over what is routed so far. (After
-- PathFinder, which routes net by net; all choices are our own.)
use Rattle.std.specs.Prelude.{◌≡◌, ℕ, List, [], ◌∷◌, Some, ◌⊎◌}
use Rattle.fabric.specs.Graph.{GraphArc}
use Rattle.circuit.specs.Parts.{Source}
use Rattle.circuit.specs.Circuits.{Circuit, Connection}
use Rattle.repair.specs.Layouts.{Layout, with_path, turn_over}
use Rattle.repair.specs.Routes.{IsTheRoute, IsBlocked}
use Rattle.attempts.specs.Wires.{source_named, pin_wire}

-- a cut: the wires inside and its rim
pub record Cut : Type 0 where
  pub inside : List ℕ
  pub rim : List ℕ

-- how an attempt comes out: with all connections routed, or blocked at one, with those before and behind it
pub data Outcome : Type 0 where
  Complete : Layout → Outcome
  Blocked : List Connection → Connection → List Connection → Cut → Outcome

-- the outcome where one more connection was routed before
abbrev pub behind : Connection → Outcome → Outcome
behind x (Complete y) = Complete y
behind x (Blocked earlier at later cut) = Blocked (x ∷ earlier) at later cut

-- An attempt over a layout, where earlier attempts had these rims: the first connection gets its path and the others
-- go on over what is routed then, or it is blocked.
abbrev pub ComesOut : Circuit → List (List ℕ) → Layout → List Connection → Outcome → Type 0
ComesOut read rims y [] out = out ≡ Complete y
ComesOut read rims y (x ∷ rest) out =
    (net : Source) × ((source_named y.cells x.source ≡ Some net) × (
    ((path : List GraphArc) × (IsTheRoute rims (turn_over read y net) path (pin_wire y.cells x) × ((o : Outcome) × (ComesOut read rims (with_path y path) rest o × (out ≡ behind x o)))))
    ⊎ ((cut : Cut) × (IsBlocked (turn_over read y net) cut.inside cut.rim (pin_wire y.cells x) × (out ≡ Blocked [] x rest cut)))))
