-- The routes of a turn are finite and can be tested, so there is the path or the least cut.
use Rattle.std.proofs.Common.{◌≡◌, ℕ, ◌↔◌, inl, inr, List, ◌∷◌, ◌++◌, map, refl, sym, arith}
use Rattle.std.specs.declared.cmp.Ordering.TheVariants.{Equal}
use Rattle.words.specs.Members.{In}
use Rattle.words.proofs.Decided.{chosen}
use Rattle.links.specs.Links.{Drives, here, onto, Below}
use Rattle.links.proofs.Members.{in_left, in_right, in_map}
use Rattle.links.proofs.Below.{below_complete}
use Rattle.links.proofs.Feeds.{feeds_on}
use Rattle.links.specs.Below.{below}
use Rattle.fabric.specs.Device.{Device}
use Rattle.fabric.specs.Graph.{GraphArc}
use Rattle.fabric.specs.GraphOf.{arc_cmp, IsGraph}
use Rattle.fabric_laws.proofs.Orders.{arc_total, arc_ties}
use Rattle.fabric_laws.proofs.Graphs.{arc_of, one_arc}
use Rattle.path_laws.proofs.Search.{IsFinite}
use Rattle.repair.specs.Turns.{Turn, routing}
use Rattle.repair.specs.Usable.{IsUsable}
use Rattle.repair.specs.Routes.{wire_weight, roads_for, InTree}
use Rattle.route_laws.proofs.Usable.{is_driven, is_feed, is_usable}

module _ (t : Turn) where
  -- the wires of the net's tree
  pub tree_wires : (ws : List ℕ) × ((w : ℕ) → In ws w ↔ (In (below (routing t.now).links t.net.out) w × InTree t w))
  tree_wires = chosen (InTree t) (λ w. is_feed (routing t.now) t.net.out w) (below (routing t.now).links t.net.out)

  pub tree : List ℕ
  tree = tree_wires.0

  -- the net's own wire, and those into which a link or an arc leads
  abbrev pub wires : List ℕ
  wires = t.net.out ∷ (map (λ l. l.sink) (routing t.now).links ++ map (λ a. a.sink) t.now.graph.arcs)

  linked_in : (w x : ℕ) → Drives (routing t.now) w x → In wires x
  linked_in w x d = inr (in_left (map (λ l. l.sink) (routing t.now).links) (map (λ a. a.sink) t.now.graph.arcs) x (in_map (λ l. l.sink) (routing t.now).links (record { source = w; sink = x }) d))

  below_in : {w : ℕ} → Below (routing t.now) t.net.out w → In wires w
  below_in here = inl refl
  below_in (onto {b} {c} q s) = linked_in b c s

  pub finite : (rims : List (List ℕ)) → IsFinite (roads_for t) (wire_weight rims) (InTree t) tree wires t.now.graph.arcs
  unfolding tree
  finite rims = record {
    may = is_usable t;
    arcs_listed = λ a. ((λ i. i), (λ i. i));
    may_is_arc = λ a u. u.routable.listed;
    linked = is_driven (routing t.now);
    tree_listed = λ w. ((λ f. (tree_wires.1 w).1 (below_complete (routing t.now).links f.reach, f)), (λ i. ((tree_wires.1 w).0 i).1));
    tree_in = λ w f. below_in f.reach;
    links_in = λ w x i d. linked_in w x d;
    sinks_in = λ a u. inr (in_right (map (λ l. l.sink) (routing t.now).links) (map (λ b. b.sink) t.now.graph.arcs) a.sink (in_map (λ b. b.sink) t.now.graph.arcs a u.routable.listed));
    closed = λ w x f d. feeds_on (routing t.now) t.net.out w x f d;
    heavy = λ a u. omega arith;
    total = arc_total;
  }

-- usable arcs that tie are one
pub same_arc : (device : Device) (t : Turn) → IsGraph device t.now.graph → (a b : GraphArc) → IsUsable t a → IsUsable t b → arc_cmp a b ≡ Equal → a ≡ b
same_arc device t is a b u v e = sym (one_arc device t.now.graph.wires a b (arc_of device t.now.graph.wires a ((is.arcs.members a).0 u.routable.listed))
    (arc_of device t.now.graph.wires b ((is.arcs.members b).0 v.routable.listed)) (arc_ties a b e))
