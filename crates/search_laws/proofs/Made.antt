-- Lists and rules that stand for a turn.
use Rattle.std.proofs.Common.{◌≡◌, ℕ, ◌↔◌, Bool, true, false, inl, inr, List, map, length, Some, refl, sym, ap, subst, ◌∙◌}
use Rattle.std.specs.Prelude.{slice_get}
use Rattle.std.specs.Option.{option_map_or}
use Rattle.std.specs.List.{enumerate_from}
use Rattle.words.specs.Members.{In}
use Rattle.links.specs.Links.{Link, Drives}
use Rattle.links.proofs.Members.{in_map, of_map, same_number}
use Rattle.links.proofs.Below.{below_complete}
use Rattle.fabric.specs.Device.{Device}
use Rattle.fabric.specs.Graph.{GraphArc}
use Rattle.fabric.specs.GraphOf.{IsGraph}
use Rattle.fabric_laws.proofs.Numbered.{entry_to, entry_is}
use Rattle.paths.specs.Wiring.{Wiring, Rules}
use Rattle.repair.specs.Turns.{Turn, routing}
use Rattle.repair.specs.Usable.{IsUsable}
use Rattle.repair.specs.Routes.{wire_weight, InTree}
use Rattle.words.proofs.Decided.{Decided, chosen}
use Rattle.route_laws.proofs.Usable.{is_usable}
use Rattle.route_laws.proofs.Routes.{tree_wires}
use Rattle.search_laws.specs.Statements.{IsNumbered}

-- whether something holds, as a test
abbrev test_of : {P : Type 0} → Decided P → Bool
test_of (inl p) = true
test_of (inr n) = false

tests : {P : Type 0} (d : Decided P) → (test_of d ≡ true) ↔ P
tests (inl p) = ((λ e. p), (λ q. refl))
tests (inr n) = ((λ e. let no : ⊥ = cc in absurd no), (λ q. absurd (n q)))

module _ (t : Turn) (rims : List (List ℕ)) where
  -- the numbered arcs from a wire, and the links from it
  arcs_from : (w : ℕ) → (ys : List (ℕ × GraphArc)) × ((y : ℕ × GraphArc) → In ys y ↔ (In (enumerate_from 0 t.now.graph.arcs) y × (y.1.source ≡ w)))
  arcs_from w = chosen (λ p. p.1.source ≡ w) (λ p. same_number p.1.source w) (enumerate_from 0 t.now.graph.arcs)

  links_from : (w : ℕ) → (ys : List Link) × ((y : Link) → In ys y ↔ (In (routing t.now).links y × (y.source ≡ w)))
  links_from w = chosen (λ l. l.source ≡ w) (λ l. same_number l.source w) (routing t.now).links

  abbrev made_wiring : Wiring
  made_wiring = record {
    wires = length t.now.graph.wires;
    outs = λ w. map (λ p. p.0) (arcs_from w).0;
    source = λ n. option_map_or (λ a. a.source) (slice_get t.now.graph.arcs n) 0;
    sink = λ n. option_map_or (λ a. a.sink) (slice_get t.now.graph.arcs n) 0;
  }

  abbrev made_rules : Rules
  made_rules = record {
    weight = wire_weight rims;
    usable = λ n. option_map_or (λ a. test_of (is_usable t a)) (slice_get t.now.graph.arcs n) false;
    next = λ w. map (λ l. l.sink) (links_from w).0;
  }

  outs_are : (w n : ℕ) → In (made_wiring.outs w) n ↔ ((a : GraphArc) × ((slice_get t.now.graph.arcs n ≡ Some a) × (a.source ≡ w)))
  outs_are w n = (
    (λ i. (let p = of_map (λ (p : ℕ × GraphArc). p.0) (arcs_from w).0 n i in
        let h = ((arcs_from w).1 p.0).0 p.1.0 in
        (p.0.1, (subst (λ k. slice_get t.now.graph.arcs k ≡ Some p.0.1) p.1.1 (entry_is t.now.graph.arcs p.0.0 p.0.1 h.0), h.1)))),
    (λ h. in_map (λ (p : ℕ × GraphArc). p.0) (arcs_from w).0 (n, h.0) (((arcs_from w).1 (n, h.0)).1 (entry_to t.now.graph.arcs n h.0 h.1.0, h.1.1))),
  )

  next_are : (w x : ℕ) → In (made_rules.next w) x ↔ Drives (routing t.now) w x
  next_are w x = (
    (λ i. (let p = of_map (λ (l : Link). l.sink) (links_from w).0 x i in
        let h = ((links_from w).1 p.0).0 p.1.0 in
        let same : p.0 ≡ record { source = w; sink = x } = (λ j. record { source = h.1 j; sink = p.1.1 j }) in
        subst (In (routing t.now).links) same h.0)),
    (λ d. let l : Link = record { source = w; sink = x } in in_map (λ (l : Link). l.sink) (links_from w).0 l (((links_from w).1 l).1 (d, refl))),
  )

  tree_are : (w : ℕ) → In (tree_wires t).0 w ↔ InTree t w
  tree_are w = ((λ i. (((tree_wires t).1 w).0 i).1), (λ f. ((tree_wires t).1 w).1 (below_complete (routing t.now).links f.reach, f)))

  usable_are : (n : ℕ) (a : GraphArc) → slice_get t.now.graph.arcs n ≡ Some a → (made_rules.usable n ≡ true) ↔ IsUsable t a
  usable_are n a e =
      let same = ap (λ o. option_map_or (λ (b : GraphArc). test_of (is_usable t b)) o false) e in
      let h = tests (is_usable t a) in
      ((λ u. h.0 (sym same ∙ u)), (λ v. same ∙ h.1 v))

  pub made_numbers : (device : Device) → IsGraph device t.now.graph → (g : Wiring) × ((r : Rules) × ((tree : List ℕ) × IsNumbered device t rims g r tree))
  made_numbers device is = (
    made_wiring,
    (
      made_rules,
      (
        (tree_wires t).0,
        record {
          graph = is;
          stand = record {
            wires = refl;
            outs = λ w n l. outs_are w n;
            source = λ n a e. ap (λ o. option_map_or (λ (b : GraphArc). b.source) o 0) e;
            sink = λ n a e. ap (λ o. option_map_or (λ (b : GraphArc). b.sink) o 0) e;
            weight = λ w l. refl;
            usable = usable_are;
            next = λ w x l. next_are w x;
            listed = tree_are;
          };
        },
      ),
    ),
  )
