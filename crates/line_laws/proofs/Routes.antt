-- Paths and cuts of a turn don't look at the numbers of lines.
use Rattle.std.proofs.Common.{◌≡◌, ℕ, ◌≤◌, ◌+◌, List, [], ◌∷◌, refl, sym, ap, subst, ◌∙◌}
use Rattle.std.specs.declared.cmp.Ordering.{Ordering}
use Rattle.words.specs.Members.{In}
use Rattle.fabric.specs.Graph.{GraphArc}
use Rattle.fabric.specs.GraphOf.{arc_cmp}
use Rattle.links.specs.Links.{Drives}
use Rattle.circuit.specs.Parts.{Source}
use Rattle.circuit.specs.Circuits.{Circuit}
use Rattle.paths.specs.Roads.{Roads}
use Rattle.paths.specs.Paths.{LeadsOn, IsPath, weight_of, IsThePath}
use Rattle.paths.specs.Cuts.{IsCut, IsBlockedBy}
use Rattle.records.specs.Config.{Config}
use Rattle.upset.specs.Configured.{Configured}
use Rattle.repair.specs.Plain.{IsPlain}
use Rattle.repair.specs.Turns.{Turn, routing}
use Rattle.repair.specs.Usable.{IsUsable}
use Rattle.repair.specs.Routes.{wire_weight, InTree, IsTheRoute, IsBlocked}
use Rattle.repair.specs.Layouts.{Layout, configured, turn_over}
use Rattle.line_laws.specs.Plain.{plain_config, plain_layout}
use Rattle.line_laws.proofs.Texts.{now_same, plain_to, plain_from}

-- ---- roads on which the same arcs may be taken

module _ {A : Type 0} (source sink : A → ℕ) (cmp : A → A → Ordering) (IsArc : A → Type 0) (Linked : ℕ → ℕ → Type 0) where
  abbrev roads : (A → Type 0) → Roads A
  roads May = record { source = source; sink = sink; cmp = cmp; IsArc = IsArc; MayTake = May; Linked = Linked }

  module _ (M N : A → Type 0) (to : (a : A) → M a → N a) where
    lead_along : (w : ℕ) (path : List A) (pin : ℕ) → LeadsOn (roads M) w path pin → LeadsOn (roads N) w path pin
    lead_along w [] pin p = p
    lead_along w (a ∷ path) pin p = (p.0, to a p.1, lead_along (sink a) path pin p.2)

    path_along : (InTree : ℕ → Type 0) (path : List A) (pin : ℕ) → IsPath (roads M) InTree path pin → IsPath (roads N) InTree path pin
    path_along InTree [] pin p = p
    path_along InTree (a ∷ path) pin p = (p.0, to a p.1, lead_along (sink a) path pin p.2)

    cut_back : (InTree : ℕ → Type 0) (inside : List ℕ) (pin : ℕ) → IsCut (roads N) InTree inside pin → IsCut (roads M) InTree inside pin
    cut_back InTree inside pin c = record { tree = c.tree; pin_out = c.pin_out; links = c.links; arcs = λ a m i. c.arcs a (to a m) i }

    same_weight : (weight : ℕ → ℕ) (path : List A) → weight_of (roads M) weight path ≡ weight_of (roads N) weight path
    same_weight weight [] = refl
    same_weight weight (a ∷ path) = ap (λ n. weight (sink a) + n) (same_weight weight path)

  module _ (M N : A → Type 0) (to : (a : A) → M a → N a) (from : (a : A) → N a → M a) (InTree : ℕ → Type 0) where
    the_path_along : (weight : ℕ → ℕ) (path : List A) (pin : ℕ) → IsThePath (roads M) weight InTree path pin → IsThePath (roads N) weight InTree path pin
    the_path_along weight path pin p = record {
      is_path = path_along M N to InTree path pin p.is_path;
      least = λ other q. subst (λ n. n ≤ weight_of (roads N) weight other) (same_weight M N to weight path)
          (subst (λ n. weight_of (roads M) weight path ≤ n) (same_weight M N to weight other) (p.least other (path_along N M from InTree other pin q)));
      first = λ other q e. p.first other (path_along N M from InTree other pin q) (same_weight M N to weight other ∙ e ∙ sym (same_weight M N to weight path));
    }

    blocked_along : (inside rim : List ℕ) (pin : ℕ) → IsBlockedBy (roads M) InTree inside rim pin → IsBlockedBy (roads N) InTree inside rim pin
    blocked_along inside rim pin b = record {
      least = record {
        cut = cut_back N M from InTree inside pin b.least.cut;
        least = λ other c w i. b.least.least other (cut_back M N to InTree other pin c) w i;
      };
      inside_in_order = b.inside_in_order;
      rim_members = λ w. (
        (λ i. (let h = (b.rim_members w).0 i in record { outside = h.outside; arc = h.arc; is_arc = h.is_arc; from = h.from; to = h.to })),
        (λ h. (b.rim_members w).1 (record { outside = h.outside; arc = h.arc; is_arc = h.is_arc; from = h.from; to = h.to })),
      );
      rim_in_order = b.rim_in_order;
    }

-- ---- turns

module _ (read : Circuit) (c : Config) (k : Configured) (net : Source) where
  abbrev turn : Config → Turn
  turn d = record { read = read; config = d; now = k; net = net }

  usable_by : (d e : Config) → ((mux : ℕ) → IsPlain k.graph d mux → IsPlain k.graph e mux) → (a : GraphArc) → IsUsable (turn d) a → IsUsable (turn e) a
  usable_by d e plain a u =
      let r = u.routable in
      let f = r.free_sink in
      record {
        routable = record {
          listed = r.listed;
          free_sink = record { wire = f.wire; named = f.named; on_grid = f.on_grid; one_mux = f.one_mux; plain = plain a.mux f.plain; none_fixed = f.none_fixed; clear = f.clear };
          one_driver = r.one_driver;
          none_fed = r.none_fed;
          chosen = r.chosen;
        };
        own_pins = u.own_pins;
        flips = u.flips;
        disturbed = u.disturbed;
      }

  usable_to : (a : GraphArc) → IsUsable (turn c) a → IsUsable (turn (plain_config c)) a
  usable_to = usable_by c (plain_config c) (plain_to k.graph c)

  usable_from : (a : GraphArc) → IsUsable (turn (plain_config c)) a → IsUsable (turn c) a
  usable_from = usable_by (plain_config c) c (plain_from k.graph c)

  route_along : (rims : List (List ℕ)) (path : List GraphArc) (pin : ℕ) → IsTheRoute rims (turn c) path pin → IsTheRoute rims (turn (plain_config c)) path pin
  route_along rims path pin p = the_path_along (λ a. a.source) (λ a. a.sink) arc_cmp (In k.graph.arcs) (Drives (routing k)) (IsUsable (turn c)) (IsUsable (turn (plain_config c))) usable_to usable_from
      (InTree (turn c)) (wire_weight rims) path pin p

  block_along : (inside rim : List ℕ) (pin : ℕ) → IsBlocked (turn c) inside rim pin → IsBlocked (turn (plain_config c)) inside rim pin
  block_along inside rim pin b = blocked_along (λ a. a.source) (λ a. a.sink) arc_cmp (In k.graph.arcs) (Drives (routing k)) (IsUsable (turn c)) (IsUsable (turn (plain_config c))) usable_to usable_from
      (InTree (turn c)) inside rim pin b

module _ (read : Circuit) (y : Layout) (net : Source) where
  abbrev turn_at : Configured → Turn
  turn_at k = record { read = read; config = plain_config y.config; now = k; net = net }

  pub plain_route : (rims : List (List ℕ)) (path : List GraphArc) (pin : ℕ) → IsTheRoute rims (turn_over read y net) path pin → IsTheRoute rims (turn_over read (plain_layout y) net) path pin
  plain_route rims path pin p = subst (λ k. IsTheRoute rims (turn_at k) path pin) (now_same y) (route_along read y.config (configured y) net rims path pin p)

  pub plain_block : (inside rim : List ℕ) (pin : ℕ) → IsBlocked (turn_over read y net) inside rim pin → IsBlocked (turn_over read (plain_layout y) net) inside rim pin
  plain_block inside rim pin b = subst (λ k. IsBlocked (turn_at k) inside rim pin) (now_same y) (block_along read y.config (configured y) net inside rim pin b)
