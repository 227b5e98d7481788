-- What was gathered is the least cut where no path leads to the pin.
use Rattle.std.proofs.Common.{ℕ, ◌↔◌, List, inl, inr}
use Rattle.std.specs.List.Sorted.{IsStrictlyIncreasing}
use Rattle.words.specs.Members.{In}
use Rattle.links.proofs.Members.{is_in, same_number}
use Rattle.paths.specs.Wiring.{roads_of}
use Rattle.path_laws.proofs.Leading.{cut_closed, path_stays}
use Rattle.net_links.specs.Nets.{Network, NetRules, IsNet, rules_of}
use Rattle.route_cut.specs.Checked.{IsCutWithRim, IsKept}
use Rattle.route_cut.proofs.Whole.{tested_is_cut, tree_within}
use Rattle.pin_search.specs.Fronts.{HasNoPath}
use Rattle.net_search.specs.declared.reach.Mark.{Mark}
use Rattle.net_search.specs.Marks.{IsOutside}
use Rattle.net_search.specs.Gathering.{AllIn, Blocks, Gathered}
use Rattle.net_search.proofs.Gathered.{inside_of, outside_of}

-- what was gathered, once it is closed, and the same wires in order
pub record Whole (g : Network) (n : NetRules) (marks : List Mark) (gathered edge inside rim : List ℕ) : Type 0 where
  pub net : IsNet g n
  pub gathers : Gathered g n marks gathered edge
  pub roots : AllIn n.roots gathered
  pub kept : (w : ℕ) → In gathered w → IsKept g.wiring (rules_of g n) gathered edge w
  pub same : (w : ℕ) → In inside w ↔ In gathered w
  pub rim_is : (w : ℕ) → In rim w ↔ (In edge w × IsOutside marks w)
  pub inside_up : IsStrictlyIncreasing inside
  pub rim_up : IsStrictlyIncreasing rim

module _ (g : Network) (n : NetRules) (marks : List Mark) (gathered edge inside rim : List ℕ) (h : Whole g n marks gathered edge inside rim) where
  kept_sorted : (w : ℕ) → In inside w → IsKept g.wiring (rules_of g n) inside rim w
  kept_sorted w i =
      let k = h.kept w ((h.same w).0 i) in record {
        links = λ x l. (h.same x).1 (k.links x l);
        arcs = λ a l. elim (k.arcs a l) [
          | inl j ↦ inl ((h.same (g.wiring.sink a)).1 j)
          | inr j ↦ elim (is_in same_number gathered (g.wiring.sink a)) [
            | inl m ↦ inl ((h.same (g.wiring.sink a)).1 m)
            | inr out ↦ inr (j.0, (h.rim_is (g.wiring.sink a)).1 (j.1, outside_of g n marks gathered edge (g.wiring.sink a) h.gathers (h.gathers.edge_wires (g.wiring.sink a) j.1) out))
          ]
        ];
      }

  cut_with_rim : (pin : ℕ) → HasNoPath g n pin → IsCutWithRim g.wiring (rules_of g n) n.tree inside rim pin
  cut_with_rim pin none = tested_is_cut g.wiring (rules_of g n) n.tree inside rim pin (record {
    inside_rises = h.inside_up;
    rim_rises = h.rim_up;
    below = λ w i. h.gathers.wires w ((h.same w).0 i);
    tree_in = tree_within g n h.net inside (λ w x i l. (kept_sorted w i).links x l) (λ w i. (h.same w).1 (h.roots w i));
    pin_out = λ i. let p = h.gathers.paths pin ((h.same pin).0 i) in none p.path p.leads;
    apart = λ w r i. inside_of g n marks gathered edge w h.gathers ((h.rim_is w).0 r).1 ((h.same w).0 i);
    kept = kept_sorted;
    entered = λ w r. let e = h.gathers.entered w ((h.rim_is w).0 r).0 in record { arc = e.arc; is_arc = e.is_arc; from = (h.same (g.wiring.source e.arc)).1 e.from; to = e.to };
  })

  pub blocks : (pin : ℕ) → HasNoPath g n pin → Blocks g n pin inside rim
  blocks pin none =
      let c = cut_with_rim pin none in record {
        least = record {
          cut = c.cut;
          least = λ other o w i. let p = h.gathers.paths w ((h.same w).0 i) in path_stays (roads_of g.wiring (rules_of g n)) (In other) (cut_closed (roads_of g.wiring (rules_of g n)) (In n.tree) other pin o) (In n.tree) o.tree p.path w p.leads;
        };
        inside_in_order = h.inside_up;
        rim_members = c.rim_members;
        rim_in_order = h.rim_up;
      }
