-- An attempt comes out in one way: each connection in turn has one path or one cut, and never both.
use Rattle.std.proofs.Common.{◌≡◌, ℕ, ◌⊎◌, inl, inr, List, [], ◌∷◌, sym, ap, subst, ◌∙◌}
use Rattle.fabric.specs.Device.{Device}
use Rattle.fabric.specs.Graph.{GraphArc}
use Rattle.fabric.specs.GraphOf.{IsGraph}
use Rattle.circuit.specs.Parts.{Source}
use Rattle.circuit.specs.Circuits.{Circuit, Connection}
use Rattle.repair.specs.Layouts.{Layout, with_path, turn_over}
use Rattle.repair.specs.Routes.{wire_weight, roads_for, InTree, IsTheRoute, IsBlocked}
use Rattle.attempts.specs.Wires.{pin_wire}
use Rattle.attempts.specs.Turns.{Cut, Outcome, Blocked, behind, ComesOut}
use Rattle.fabric_laws.proofs.Graphs.{some_same}
use Rattle.fabric_laws.proofs.Orders.{arc_total}
use Rattle.path_laws.proofs.Leading.{one_path, none_crosses}
use Rattle.path_laws.proofs.Search.{one_cut}
use Rattle.route_laws.proofs.Routes.{same_arc}

-- cuts with the same wires and rim are the same
same_cut : (c d : Cut) → (c.inside ≡ d.inside) × (c.rim ≡ d.rim) → c ≡ d
same_cut c d e i = record { inside = e.0 i; rim = e.1 i }

module _ (device : Device) (read : Circuit) (rims : List (List ℕ)) where
  -- the first connection gets its path and the others go on
  abbrev Routes : Layout → Connection → List Connection → Outcome → Source → Type 0
  Routes y x rest out net = (path : List GraphArc) × (IsTheRoute rims (turn_over read y net) path (pin_wire y.cells x) × ((o : Outcome) × (ComesOut read rims (with_path y path) rest o × (out ≡ behind x o))))

  -- the first connection is blocked
  abbrev Stops : Layout → Connection → List Connection → Outcome → Source → Type 0
  Stops y x rest out net = (cut : Cut) × (IsBlocked (turn_over read y net) cut.inside cut.rim (pin_wire y.cells x) × (out ≡ Blocked [] x rest cut))

  -- over any layout an order comes out in one way
  abbrev ComesOutOnce : List Connection → Type 0
  ComesOutOnce order = (y : Layout) (out other : Outcome) → IsGraph device y.graph → ComesOut read rims y order out → ComesOut read rims y order other → out ≡ other

  module _ (y : Layout) (is : IsGraph device y.graph) (x : Connection) (rest : List Connection) (net : Source) where
    one_route : (path other : List GraphArc) → IsTheRoute rims (turn_over read y net) path (pin_wire y.cells x) → IsTheRoute rims (turn_over read y net) other (pin_wire y.cells x) → path ≡ other
    one_route path other p q =
        one_path (roads_for (turn_over read y net)) (same_arc device (turn_over read y net) is) arc_total (wire_weight rims) (InTree (turn_over read y net)) path other (pin_wire y.cells x) p q

    not_both : (path : List GraphArc) (cut : Cut) → IsTheRoute rims (turn_over read y net) path (pin_wire y.cells x) → IsBlocked (turn_over read y net) cut.inside cut.rim (pin_wire y.cells x) → ⊥
    not_both path cut p b = none_crosses (roads_for (turn_over read y net)) (InTree (turn_over read y net)) cut.inside path (pin_wire y.cells x) b.least.cut p.is_path

    routed_once : ComesOutOnce rest → (out other : Outcome) → Routes y x rest out net → Routes y x rest other net → out ≡ other
    routed_once ih out other p q =
        p.1.1.1.1 ∙ ap (behind x) (ih (with_path y p.0) p.1.1.0 q.1.1.0 is p.1.1.1.0 (subst (λ path. ComesOut read rims (with_path y path) rest q.1.1.0) (one_route q.0 p.0 q.1.0 p.1.0) q.1.1.1.0)) ∙ sym q.1.1.1.1

    blocked_once : (out other : Outcome) → Stops y x rest out net → Stops y x rest other net → out ≡ other
    blocked_once out other p q =
        p.1.1 ∙ ap (Blocked [] x rest) (same_cut p.0 q.0 (one_cut (roads_for (turn_over read y net)) (InTree (turn_over read y net)) p.0.inside p.0.rim q.0.inside q.0.rim (pin_wire y.cells x) p.1.0 q.1.0)) ∙ sym q.1.1

    one_turn : ComesOutOnce rest → (out other : Outcome) → Routes y x rest out net ⊎ Stops y x rest out net → Routes y x rest other net ⊎ Stops y x rest other net → out ≡ other
    one_turn ih out other (inl p) (inl q) = routed_once ih out other p q
    one_turn ih out other (inl p) (inr q) = absurd (not_both p.0 q.0 p.1.0 q.1.0)
    one_turn ih out other (inr p) (inl q) = absurd (not_both q.0 p.0 q.1.0 p.1.0)
    one_turn ih out other (inr p) (inr q) = blocked_once out other p q

  pub one_outcome : (order : List Connection) → ComesOutOnce order
  one_outcome [] y out other is p q = p ∙ sym q
  one_outcome (x ∷ rest) y out other is p q =
      one_turn y is x rest p.0 (one_outcome rest) out other p.1.1 (subst (λ net. Routes y x rest other net ⊎ Stops y x rest other net) (some_same (sym q.1.0 ∙ p.1.0)) q.1.1)
