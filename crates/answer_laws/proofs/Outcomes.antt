-- An attempt comes out, where the source of each connection is named.
use Rattle.std.proofs.Common.{◌≡◌, ℕ, ◌⊎◌, inl, inr, List, [], ◌∷◌, refl}
use Rattle.words.specs.Members.{In}
use Rattle.fabric.specs.Graph.{GraphArc}
use Rattle.circuit.specs.Cells.{Cells}
use Rattle.circuit.specs.Parts.{Source}
use Rattle.circuit.specs.Circuits.{Circuit, Connection}
use Rattle.repair.specs.Layouts.{Layout, with_path, turn_over}
use Rattle.repair.specs.Turns.{Turn}
use Rattle.repair.specs.Routes.{wire_weight, roads_for, InTree, IsTheRoute, IsBlocked}
use Rattle.attempts.specs.Wires.{pin_wire}
use Rattle.attempts.specs.Turns.{Cut, Outcome, Complete, Blocked, behind, ComesOut}
use Rattle.path_laws.proofs.Search.{path_or_cut}
use Rattle.route_laws.proofs.Routes.{tree, wires, finite}
use Rattle.answer_laws.specs.Named.{AllNamed}
use Rattle.answer_laws.proofs.Named.{IsFound, found_by_name}

module _ (read : Circuit) (rims : List (List ℕ)) where
  route_or_cut : (t : Turn) (pin : ℕ) → ((path : List GraphArc) × IsTheRoute rims t path pin) ⊎ ((inside : List ℕ) × ((rim : List ℕ) × IsBlocked t inside rim pin))
  route_or_cut t pin = path_or_cut (roads_for t) (wire_weight rims) (InTree t) (tree t) (wires t) t.now.graph.arcs (finite t rims) pin

  -- an attempt over a layout comes out
  abbrev pub SomeOutcome : Layout → List Connection → Type 0
  SomeOutcome y order = (out : Outcome) × ComesOut read rims y order out

  turn : (y : Layout) (x : Connection) (rest : List Connection) → IsFound y.cells x.source → ((path : List GraphArc) → SomeOutcome (with_path y path) rest) → SomeOutcome y (x ∷ rest)
  turn y x rest net onward = elim (route_or_cut (turn_over read y net.source) (pin_wire y.cells x)) [
    | inl p ↦ (let o = onward p.0 in (behind x o.0, (net.source, (net.found, inl (p.0, (p.1, (o.0, (o.1, refl))))))))
    | inr b ↦ (let cut : Cut = record { inside = b.0; rim = b.1.0 } in (Blocked [] x rest cut, (net.source, (net.found, inr (cut, (b.1.1, refl))))))
  ]

  pub comes_out : (order : List Connection) (y : Layout) → AllNamed y.cells order → SomeOutcome y order
  comes_out [] y named = (Complete y, refl)
  comes_out (x ∷ rest) y named = turn y x rest (found_by_name y.cells x.source (named x (inl refl))) (λ path. comes_out rest (with_path y path) (λ z i. named z (inr i)))
