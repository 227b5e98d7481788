-- Paths and cuts by number are those of the turn.
use Rattle.std.proofs.Common.{◌≡◌, ◌≢◌, ℕ, ◌<◌, ◌≤◌, ◌+◌, ◌↔◌, List, [], ◌∷◌, refl, sym, ap, ap₂, subst, ◌∙◌}
use Rattle.std.specs.declared.cmp.Ordering.TheVariants.{Greater}
use Rattle.words.specs.Members.{In}
use Rattle.links.specs.Links.{Below}
use Rattle.fabric.specs.Device.{Device}
use Rattle.fabric.specs.Graph.{GraphArc, Graph}
use Rattle.fabric_laws.proofs.Numbered.{get_in, number_there}
use Rattle.paths.specs.Roads.{IsBelow}
use Rattle.paths.specs.Paths.{LeadsOn, IsPath, weight_of, IsThePath}
use Rattle.paths.specs.Cuts.{IsLeastCut, IsInRim, IsBlockedBy}
use Rattle.paths.specs.Wiring.{Wiring, Rules, roads_of}
use Rattle.path_laws.proofs.Numbered as numbered
use Rattle.path_laws.proofs.Search.{least_is_reached, reached_is_least}
use Rattle.repair.specs.Turns.{Turn, routing}
use Rattle.repair.specs.Routes.{wire_weight, roads_for, InTree, IsRoute, IsTheRoute, IsBlocked}
use Rattle.route_laws.proofs.Routes as routes
use Rattle.search_laws.specs.Numbered.{AreNumbersOf}
use Rattle.search_laws.specs.Statements.{IsNumbered}
use Rattle.search_laws.proofs.Order.{same_list_order}
use Rattle.search_laws.proofs.Standing.{sink_in, arc_of, is_arc, below_to, below_from, meets}

-- the arcs of a path are those of the graph, so they have numbers
numbers_of_lead : (t : Turn) (w : ℕ) (path : List GraphArc) (pin : ℕ) → LeadsOn (roads_for t) w path pin → (ns : List ℕ) × AreNumbersOf t.now.graph ns path
numbers_of_lead t w [] pin p = ([], tt)
numbers_of_lead t w (a ∷ path) pin p =
    let n = number_there t.now.graph.arcs a p.1.routable.listed in
    let rest = numbers_of_lead t a.sink path pin p.2 in
    (n.0 ∷ rest.0, (n.1, rest.1))

numbers_of_route : (t : Turn) (path : List GraphArc) (pin : ℕ) → IsRoute t path pin → (ns : List ℕ) × AreNumbersOf t.now.graph ns path
numbers_of_route t [] pin p = ([], tt)
numbers_of_route t (a ∷ path) pin p =
    let n = number_there t.now.graph.arcs a p.1.routable.listed in
    let rest = numbers_of_lead t a.sink path pin p.2 in
    (n.0 ∷ rest.0, (n.1, rest.1))

pub route_has_numbers : (rims : List (List ℕ)) (t : Turn) (path : List GraphArc) (pin : ℕ) → IsTheRoute rims t path pin → (ns : List ℕ) × AreNumbersOf t.now.graph ns path
route_has_numbers rims t path pin p = numbers_of_route t path pin p.is_path

module _ (device : Device) (t : Turn) (rims : List (List ℕ)) (g : Wiring) (r : Rules) (tree : List ℕ) (is : IsNumbered device t rims g r tree) where
  abbrev graph : Graph
  graph = t.now.graph

  -- the numbers of a path are those of arcs
  arcs_of_lead : (w : ℕ) (ns : List ℕ) (pin : ℕ) → LeadsOn (roads_of g r) w ns pin → (path : List GraphArc) × AreNumbersOf graph ns path
  arcs_of_lead w [] pin p = ([], tt)
  arcs_of_lead w (n ∷ ns) pin p =
      let a = arc_of device t rims g r tree is n p.1.0 in
      let rest = arcs_of_lead (g.sink n) ns pin p.2 in
      (a.arc ∷ rest.0, (a.at, rest.1))

  arcs_of_path : (ns : List ℕ) (pin : ℕ) → IsPath (roads_of g r) (In tree) ns pin → (path : List GraphArc) × AreNumbersOf graph ns path
  arcs_of_path [] pin p = ([], tt)
  arcs_of_path (n ∷ ns) pin p =
      let a = arc_of device t rims g r tree is n p.1.0 in
      let rest = arcs_of_lead (g.sink n) ns pin p.2 in
      (a.arc ∷ rest.0, (a.at, rest.1))

  -- ---- paths

  lead_to : (x : ℕ) → x < g.wires → (ns : List ℕ) (path : List GraphArc) (pin : ℕ) → AreNumbersOf graph ns path → LeadsOn (roads_of g r) x ns pin → LeadsOn (roads_for t) x path pin
  lead_to x l [] [] pin h p = (below_to device t rims g r tree is x l p).0
  lead_to x l [] (a ∷ path) pin h p = absurd h
  lead_to x l (n ∷ ns) [] pin h p = absurd h
  lead_to x l (n ∷ ns) (a ∷ path) pin h p = (
    subst (Below (routing t.now) x) (is.stand.source n a h.0) (below_to device t rims g r tree is x l p.0).0,
    (is.stand.usable n a h.0).0 p.1.1,
    lead_to a.sink (sink_in device t rims g r tree is a (get_in graph.arcs n a h.0)) ns path pin h.1 (subst (λ w. LeadsOn (roads_of g r) w ns pin) (is.stand.sink n a h.0) p.2),
  )

  lead_from : (x : ℕ) → x < g.wires → (ns : List ℕ) (path : List GraphArc) (pin : ℕ) → AreNumbersOf graph ns path → LeadsOn (roads_for t) x path pin → LeadsOn (roads_of g r) x ns pin
  lead_from x l [] [] pin h p = (below_from device t rims g r tree is x l p).0
  lead_from x l [] (a ∷ path) pin h p = absurd h
  lead_from x l (n ∷ ns) [] pin h p = absurd h
  lead_from x l (n ∷ ns) (a ∷ path) pin h p = (
    subst (IsBelow (roads_of g r) x) (sym (is.stand.source n a h.0)) (below_from device t rims g r tree is x l p.0).0,
    (is_arc device t rims g r tree is n a h.0, (is.stand.usable n a h.0).1 p.1),
    subst (λ w. LeadsOn (roads_of g r) w ns pin) (sym (is.stand.sink n a h.0)) (lead_from a.sink (sink_in device t rims g r tree is a (get_in graph.arcs n a h.0)) ns path pin h.1 p.2),
  )

  path_to : (ns : List ℕ) (path : List GraphArc) (pin : ℕ) → AreNumbersOf graph ns path → IsPath (roads_of g r) (In tree) ns pin → IsRoute t path pin
  path_to [] [] pin h p = (is.stand.listed pin).0 p
  path_to [] (a ∷ path) pin h p = absurd h
  path_to (n ∷ ns) [] pin h p = absurd h
  path_to (n ∷ ns) (a ∷ path) pin h p = (
    (is.stand.listed a.source).0 (subst (In tree) (is.stand.source n a h.0) p.0),
    (is.stand.usable n a h.0).0 p.1.1,
    lead_to a.sink (sink_in device t rims g r tree is a (get_in graph.arcs n a h.0)) ns path pin h.1 (subst (λ w. LeadsOn (roads_of g r) w ns pin) (is.stand.sink n a h.0) p.2),
  )

  path_from : (ns : List ℕ) (path : List GraphArc) (pin : ℕ) → AreNumbersOf graph ns path → IsRoute t path pin → IsPath (roads_of g r) (In tree) ns pin
  path_from [] [] pin h p = (is.stand.listed pin).1 p
  path_from [] (a ∷ path) pin h p = absurd h
  path_from (n ∷ ns) [] pin h p = absurd h
  path_from (n ∷ ns) (a ∷ path) pin h p = (
    subst (In tree) (sym (is.stand.source n a h.0)) ((is.stand.listed a.source).1 p.0),
    (is_arc device t rims g r tree is n a h.0, (is.stand.usable n a h.0).1 p.1),
    subst (λ w. LeadsOn (roads_of g r) w ns pin) (sym (is.stand.sink n a h.0)) (lead_from a.sink (sink_in device t rims g r tree is a (get_in graph.arcs n a h.0)) ns path pin h.1 p.2),
  )

  -- ---- the path

  same_weight : (ns : List ℕ) (path : List GraphArc) → AreNumbersOf graph ns path → weight_of (roads_of g r) r.weight ns ≡ weight_of (roads_for t) (wire_weight rims) path
  same_weight [] [] h = refl
  same_weight [] (a ∷ path) h = absurd h
  same_weight (n ∷ ns) [] h = absurd h
  same_weight (n ∷ ns) (a ∷ path) h =
      ap₂ (λ x y. x + y) (ap r.weight (is.stand.sink n a h.0) ∙ is.stand.weight a.sink (sink_in device t rims g r tree is a (get_in graph.arcs n a h.0))) (same_weight ns path h.1)

  the_route : (ns : List ℕ) (path : List GraphArc) (pin : ℕ) → AreNumbersOf graph ns path → IsThePath (roads_of g r) r.weight (In tree) ns pin → IsTheRoute rims t path pin
  the_route ns path pin h p = record {
    is_path = path_to ns path pin h p.is_path;
    least = λ other q. (let m = numbers_of_route t other pin q in
        subst (λ z. z ≤ weight_of (roads_for t) (wire_weight rims) other) (same_weight ns path h)
        (subst (λ z. weight_of (roads_of g r) r.weight ns ≤ z) (same_weight m.0 other m.1) (p.least m.0 (path_from m.0 other pin m.1 q))));
    first = λ other q e. (let m = numbers_of_route t other pin q in
        subst (λ o. o ≢ Greater) (same_list_order graph is.graph.arcs.rising ns m.0 path other h m.1)
        (p.first m.0 (path_from m.0 other pin m.1 q) (same_weight m.0 other m.1 ∙ e ∙ sym (same_weight ns path h))));
  }

  the_path : (ns : List ℕ) (path : List GraphArc) (pin : ℕ) → AreNumbersOf graph ns path → IsTheRoute rims t path pin → IsThePath (roads_of g r) r.weight (In tree) ns pin
  the_path ns path pin h p = record {
    is_path = path_from ns path pin h p.is_path;
    least = λ ms q. (let o = arcs_of_path ms pin q in
        subst (λ z. z ≤ weight_of (roads_of g r) r.weight ms) (sym (same_weight ns path h))
        (subst (λ z. weight_of (roads_for t) (wire_weight rims) path ≤ z) (sym (same_weight ms o.0 o.1)) (p.least o.0 (path_to ms o.0 pin o.1 q))));
    first = λ ms q e. (let o = arcs_of_path ms pin q in
        subst (λ z. z ≢ Greater) (sym (same_list_order graph is.graph.arcs.rising ns ms path o.0 h o.1))
        (p.first o.0 (path_to ms o.0 pin o.1 q) (sym (same_weight ms o.0 o.1) ∙ e ∙ same_weight ns path h)));
  }

  pub path_is_route : (ns : List ℕ) (path : List GraphArc) (pin : ℕ) → AreNumbersOf graph ns path → IsThePath (roads_of g r) r.weight (In tree) ns pin ↔ IsTheRoute rims t path pin
  path_is_route ns path pin h = (the_route ns path pin h, the_path ns path pin h)

  pub path_has_arcs : (ns : List ℕ) (pin : ℕ) → IsThePath (roads_of g r) r.weight (In tree) ns pin → (path : List GraphArc) × AreNumbersOf graph ns path
  path_has_arcs ns pin p = arcs_of_path ns pin p.is_path

  -- ---- cuts

  -- a path leads to a wire, by number and by arcs
  some_route : (w : ℕ) → ((ns : List ℕ) × IsPath (roads_of g r) (In tree) ns w) ↔ ((path : List GraphArc) × IsRoute t path w)
  some_route w = (
    (λ p. (let a = arcs_of_path p.0 w p.1 in (a.0, path_to p.0 a.0 w a.1 p.1))),
    (λ q. (let m = numbers_of_route t q.0 w q.1 in (m.0, path_from m.0 q.0 w m.1 q.1))),
  )

  by_numbers : (inside : List ℕ) (pin : ℕ) → IsLeastCut (roads_of g r) (In tree) inside pin → (w : ℕ) → In inside w ↔ ((ns : List ℕ) × IsPath (roads_of g r) (In tree) ns w)
  by_numbers inside pin l = let m = meets device t rims g r tree is in
      least_is_reached (roads_of g r) r.weight (In tree) tree (numbered.numbers g.wires) (numbered.all_arcs g r tree m.0 m.1.0 m.1.1) (numbered.finite g r tree m.0 m.1.0 m.1.1) inside pin l

  by_arcs : (inside : List ℕ) (pin : ℕ) → IsLeastCut (roads_for t) (InTree t) inside pin → (w : ℕ) → In inside w ↔ ((path : List GraphArc) × IsRoute t path w)
  by_arcs inside pin l = least_is_reached (roads_for t) (wire_weight rims) (InTree t) (routes.tree t) (routes.wires t) graph.arcs (routes.finite t rims) inside pin l

  cut_to : (inside : List ℕ) (pin : ℕ) → IsLeastCut (roads_of g r) (In tree) inside pin → IsLeastCut (roads_for t) (InTree t) inside pin
  cut_to inside pin l = reached_is_least (roads_for t) (wire_weight rims) (InTree t) (routes.tree t) (routes.wires t) graph.arcs (routes.finite t rims) inside pin
      (λ w. ((λ i. (some_route w).0 ((by_numbers inside pin l w).0 i)), (λ p. (by_numbers inside pin l w).1 ((some_route w).1 p)))) l.cut.pin_out

  cut_from : (inside : List ℕ) (pin : ℕ) → IsLeastCut (roads_for t) (InTree t) inside pin → IsLeastCut (roads_of g r) (In tree) inside pin
  cut_from inside pin l = let m = meets device t rims g r tree is in
      reached_is_least (roads_of g r) r.weight (In tree) tree (numbered.numbers g.wires) (numbered.all_arcs g r tree m.0 m.1.0 m.1.1) (numbered.finite g r tree m.0 m.1.0 m.1.1) inside pin
      (λ w. ((λ i. (some_route w).1 ((by_arcs inside pin l w).0 i)), (λ p. (by_arcs inside pin l w).1 ((some_route w).0 p)))) l.cut.pin_out

  rim_to : (inside : List ℕ) (w : ℕ) → IsInRim (roads_of g r) inside w → IsInRim (roads_for t) inside w
  rim_to inside w h =
      let a = arc_of device t rims g r tree is h.arc h.is_arc in
      record {
        outside = h.outside;
        arc = a.arc;
        is_arc = get_in graph.arcs h.arc a.arc a.at;
        from = subst (In inside) (is.stand.source h.arc a.arc a.at) h.from;
        to = sym (is.stand.sink h.arc a.arc a.at) ∙ h.to;
      }

  rim_from : (inside : List ℕ) (w : ℕ) → IsInRim (roads_for t) inside w → IsInRim (roads_of g r) inside w
  rim_from inside w h =
      let n = number_there graph.arcs h.arc h.is_arc in
      record {
        outside = h.outside;
        arc = n.0;
        is_arc = is_arc device t rims g r tree is n.0 h.arc n.1;
        from = subst (In inside) (sym (is.stand.source n.0 h.arc n.1)) h.from;
        to = is.stand.sink n.0 h.arc n.1 ∙ h.to;
      }

  pub cut_is_cut : (inside rim : List ℕ) (pin : ℕ) → IsBlockedBy (roads_of g r) (In tree) inside rim pin ↔ IsBlocked t inside rim pin
  cut_is_cut inside rim pin = (
    (λ b. record {
      least = cut_to inside pin b.least;
      inside_in_order = b.inside_in_order;
      rim_members = λ w. ((λ i. rim_to inside w ((b.rim_members w).0 i)), (λ h. (b.rim_members w).1 (rim_from inside w h)));
      rim_in_order = b.rim_in_order;
    }),
    (λ b. record {
      least = cut_from inside pin b.least;
      inside_in_order = b.inside_in_order;
      rim_members = λ w. ((λ i. rim_from inside w ((b.rim_members w).0 i)), (λ h. (b.rim_members w).1 (rim_to inside w h)));
      rim_in_order = b.rim_in_order;
    }),
  )
