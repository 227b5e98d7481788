-- The turn of a net by numbers, as a search reads it. (Our own.)
use Rattle.std.specs.Prelude.{◌≡◌, ℕ, ◌<◌, true, List, [], ◌∷◌, length, Some, slice_get, ◌↔◌}
use Rattle.words.specs.Members.{In}
use Rattle.links.specs.Links.{Drives}
use Rattle.fabric.specs.Graph.{GraphArc, Graph}
use Rattle.paths.specs.Wiring.{Wiring, Rules}
use Rattle.repair.specs.Turns.{Turn, routing}
use Rattle.repair.specs.Usable.{IsUsable}
use Rattle.repair.specs.Routes.{wire_weight, InTree}

-- these are the numbers of these arcs
abbrev pub AreNumbersOf : Graph → List ℕ → List GraphArc → Type 0
AreNumbersOf g [] [] = Unit {0}
AreNumbersOf g [] (a ∷ path) = ⊥
AreNumbersOf g (n ∷ ns) [] = ⊥
AreNumbersOf g (n ∷ ns) (a ∷ path) = (slice_get g.arcs n ≡ Some a) × AreNumbersOf g ns path

-- Lists and rules by number stand for a turn, after attempts with these rims: arcs are numbered in arc order, out of each
-- wire lead the numbers of the graph's arcs from it, a number may be taken where its arc is usable, and links, weights and
-- tree are those of the turn.
pub record StandFor (t : Turn) (rims : List (List ℕ)) (g : Wiring) (r : Rules) (tree : List ℕ) : Type 0 where
  pub wires : g.wires ≡ length t.now.graph.wires
  pub outs : (w n : ℕ) → w < g.wires → In (g.outs w) n ↔ ((a : GraphArc) × ((slice_get t.now.graph.arcs n ≡ Some a) × (a.source ≡ w)))
  pub source : (n : ℕ) (a : GraphArc) → slice_get t.now.graph.arcs n ≡ Some a → g.source n ≡ a.source
  pub sink : (n : ℕ) (a : GraphArc) → slice_get t.now.graph.arcs n ≡ Some a → g.sink n ≡ a.sink
  pub weight : (w : ℕ) → w < g.wires → r.weight w ≡ wire_weight rims w
  pub usable : (n : ℕ) (a : GraphArc) → slice_get t.now.graph.arcs n ≡ Some a → (r.usable n ≡ true) ↔ IsUsable t a
  pub next : (w x : ℕ) → w < g.wires → In (r.next w) x ↔ Drives (routing t.now) w x
  pub listed : (w : ℕ) → In tree w ↔ InTree t w
