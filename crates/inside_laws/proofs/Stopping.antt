-- Where an attempt stops: a complete one at its last layout, a blocked one at a layout inside it.
use Rattle.std.proofs.Common.{◌≡◌, ℕ, inl, inr, List, [], ◌∷◌, Some, sym, subst}
use Rattle.circuit.specs.Parts.{Source}
use Rattle.circuit.specs.Circuits.{Circuit, Connection}
use Rattle.fabric.specs.Graph.{GraphArc}
use Rattle.repair.specs.Layouts.{Layout, with_path, turn_over}
use Rattle.repair.specs.Routes.{IsTheRoute, IsBlocked}
use Rattle.attempts.specs.Jobs.{Job, State, read_of}
use Rattle.attempts.specs.Wires.{source_named, pin_wire}
use Rattle.attempts.specs.Turns.{Cut, Outcome, Complete, Blocked, behind, ComesOut}
use Rattle.attempts.specs.Attempts.{Attempt}
use Rattle.inside_laws.specs.Inside.{ComesTo, begins, routes, IsInside}
use Rattle.inside_laws.specs.Statements.{IsStoppedAt}

module _ (read : Circuit) (rims : List (List ℕ)) where
  -- a layout at which a connection is blocked by a cut
  record Stop (y : Layout) (order : List Connection) (x : Connection) (later : List Connection) (cut : Cut) : Type 0 where
    at : Layout
    inside : ComesTo read rims y order at (x ∷ later)
    net : Source
    named : source_named at.cells x.source ≡ Some net
    blocked : IsBlocked (turn_over read at net) cut.inside cut.rim (pin_wire at.cells x)

  -- where an outcome comes to
  abbrev Stops : Layout → List Connection → Outcome → Type 0
  Stops y order (Complete z) = ComesTo read rims y order z []
  Stops y order (Blocked earlier x later cut) = Stop y order x later cut

  stops_behind : (y : Layout) (x : Connection) (rest : List Connection) (net : Source) → source_named y.cells x.source ≡ Some net → (path : List GraphArc)
      → IsTheRoute rims (turn_over read y net) path (pin_wire y.cells x) → (o : Outcome) → Stops (with_path y path) rest o → Stops y (x ∷ rest) (behind x o)
  stops_behind y x rest net named path route (Complete z) s = routes net path named route s
  stops_behind y x rest net named path route (Blocked earlier at later cut) s =
      record { at = s.at; inside = routes net path named route s.inside; net = s.net; named = s.named; blocked = s.blocked }

  stops : (order : List Connection) (y : Layout) (out : Outcome) → ComesOut read rims y order out → Stops y order out
  stops [] y out c = subst (Stops y []) (sym c) begins
  stops (x ∷ rest) y out c = elim c.1.1 [
    | inl p ↦ subst (Stops y (x ∷ rest)) (sym p.1.1.1.1) (stops_behind y x rest c.0 c.1.0 p.0 p.1.0 p.1.1.0 (stops rest (with_path y p.0) p.1.1.0 p.1.1.1.0))
    | inr p ↦ subst (Stops y (x ∷ rest)) (sym p.1.1) (record { at = y; inside = begins; net = c.0; named = c.1.0; blocked = p.1.0 })
  ]

pub blocked_stops : (job : Job) (state : State) (earlier : List Connection) (x : Connection) (later : List Connection) (cut : Cut)
    → Attempt job state (Blocked earlier x later cut) → (z : Layout) × IsStoppedAt job state x later cut z
blocked_stops job state earlier x later cut a =
    let s = stops (read_of job) state.rims state.order state.layout (Blocked earlier x later cut) a in
    (s.at, record { inside = s.inside; net = s.net; named = s.named; blocked = s.blocked })

pub complete_ends : (job : Job) (state : State) (z : Layout) → Attempt job state (Complete z) → IsInside job state z []
complete_ends job state z a = stops (read_of job) state.rims state.order state.layout (Complete z) a
