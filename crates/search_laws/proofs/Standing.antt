-- What stands for a turn by number: wires lie in range, and arcs have numbers.
use Rattle.std.proofs.Common.{◌≡◌, ℕ, ◌<◌, List, Some, sym, subst, ◌∙◌, arith}
use Rattle.std.specs.Prelude.{slice_get}
use Rattle.std.proofs.lemmas.Option.{slice_get_within}
use Rattle.words.specs.Members.{In}
use Rattle.links.specs.Links.{Reaches, here, onto, Drives, Below}
use Rattle.links.proofs.Feeds.{feeds_on}
use Rattle.fabric.specs.Device.{Device}
use Rattle.fabric.specs.Graph.{GraphArc, Graph}
use Rattle.fabric_laws.proofs.Numbered.{get_in}
use Rattle.fabric_laws.proofs.Standing.{arc_stands}
use Rattle.paths.specs.Wiring.{Wiring, Rules, IsArcOf, IsWiring, IsRules, IsTree, roads_of}
use Rattle.repair.specs.Turns.{Turn, routing}
use Rattle.repair.specs.Routes.{wire_weight, InTree}
use Rattle.check_laws.proofs.RoutingRules.{HasWire}
use Rattle.answer_laws.proofs.BadPlaces.{arc_sink, link_sink, fed_wire}
use Rattle.search_laws.specs.Statements.{IsNumbered}

module _ (device : Device) (t : Turn) (rims : List (List ℕ)) (g : Wiring) (r : Rules) (tree : List ℕ) (is : IsNumbered device t rims g r tree) where
  abbrev graph : Graph
  graph = t.now.graph

  -- ---- ranges

  named_in : (w : ℕ) → HasWire graph w → w < g.wires
  named_in w h = subst (λ n. w < n) (sym is.stand.wires) (slice_get_within graph.wires w h.0 h.1)

  pub source_in : (a : GraphArc) → In graph.arcs a → a.source < g.wires
  source_in a i = let s = arc_stands device graph is.graph a i in named_in a.source (s.source.wire, s.source.numbered)

  pub sink_in : (a : GraphArc) → In graph.arcs a → a.sink < g.wires
  sink_in a i = named_in a.sink (arc_sink device graph is.graph a i)

  link_in : (w x : ℕ) → Drives (routing t.now) w x → x < g.wires
  link_in w x d = named_in x (link_sink device graph is.graph t.now.image (record { source = w; sink = x }) d)

  pub tree_in : (w : ℕ) → InTree t w → w < g.wires
  tree_in w f = named_in w (fed_wire device graph is.graph t.now.image t.net.out w f)

  -- ---- arcs

  -- the arc of a number
  pub record HasArc (n : ℕ) : Type 0 where
    pub arc : GraphArc
    pub at : slice_get graph.arcs n ≡ Some arc

  pub arc_of : (n : ℕ) → IsArcOf g n → HasArc n
  arc_of n i = let h = (is.stand.outs (g.source n) n i.below).0 i.listed in record { arc = h.0; at = h.1.0 }

  pub is_arc : (n : ℕ) (a : GraphArc) → slice_get graph.arcs n ≡ Some a → IsArcOf g n
  is_arc n a e =
      let below : g.source n < g.wires = subst (λ w. w < g.wires) (sym (is.stand.source n a e)) (source_in a (get_in graph.arcs n a e)) in
      record { below = below; listed = (is.stand.outs (g.source n) n below).1 (a, (e, sym (is.stand.source n a e))) }

  -- ---- what is below a wire

  pub below_to : (x : ℕ) → x < g.wires → {y : ℕ} → Reaches (roads_of g r).Linked x y → Below (routing t.now) x y × (y < g.wires)
  below_to x l here = (here, l)
  below_to x l (onto {b} {c} q h) = let p = below_to x l q in let d = (is.stand.next b c p.1).0 h in (onto p.0 d, link_in b c d)

  pub below_from : (x : ℕ) → x < g.wires → {y : ℕ} → Below (routing t.now) x y → Reaches (roads_of g r).Linked x y × (y < g.wires)
  below_from x l here = (here, l)
  below_from x l (onto {b} {c} q d) = let p = below_from x l q in (onto p.0 ((is.stand.next b c p.1).1 d), link_in b c d)

  -- ---- what a search asks

  wiring : IsWiring g
  wiring = record {
    own = λ w n l i. (let h = (is.stand.outs w n l).0 i in is.stand.source n h.0 h.1.0 ∙ h.1.1);
    sinks = λ n i. (let a = arc_of n i in subst (λ w. w < g.wires) (sym (is.stand.sink n a.arc a.at)) (sink_in a.arc (get_in graph.arcs n a.arc a.at)));
  }

  heavy : (w : ℕ) → 0 < wire_weight rims w
  heavy w = omega arith

  rules : IsRules g r
  rules = record {
    weights = λ w l. subst (λ n. 0 < n) (sym (is.stand.weight w l)) (heavy w);
    nexts = λ w x l i. link_in w x ((is.stand.next w x l).0 i);
  }

  is_tree : IsTree g r tree
  is_tree = record {
    below = λ w i. tree_in w ((is.stand.listed w).0 i);
    closed = λ w x i h. (let f = (is.stand.listed w).0 i in (is.stand.listed x).1 (feeds_on (routing t.now) t.net.out w x f ((is.stand.next w x (tree_in w f)).0 h)));
  }

  pub meets : IsWiring g × (IsRules g r × IsTree g r tree)
  meets = (wiring, (rules, is_tree))
