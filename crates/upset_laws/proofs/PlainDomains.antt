-- The plain computation of domains, of bad flips and of safe images is what it should be.
use Rattle.std.proofs.Common.{◌≡◌, ◌≢◌, ℕ, true, ◌↔◌, inl, inr, List, ◌++◌, map, filter, refl, sym, ap, subst, ◌∙◌}
use Rattle.std.specs.Prelude.{not, bytes_eq}
use Rattle.std.specs.List.{list_any}
use Rattle.std.proofs.lemmas.Bool.{false≢true}
use Rattle.std.proofs.lemmas.Slice.Eq.{bytes_eq-Decides}
use Rattle.words.specs.Members.{In}
use Rattle.patterns.specs.Bits.{Bits, same_bit}
use Rattle.records.specs.Side.{Domain, D0, D1, D2}
use Rattle.links.specs.Links.{Feeds, IsClean}
use Rattle.links.proofs.Members.{in_left, in_right, in_either, in_map, of_map}
use Rattle.links.proofs.Below.{below_sound, below_complete, has_in, in_has}
use Rattle.links.proofs.Feeds.{one_feed}
use Rattle.links.specs.Below.{below, has}
use Rattle.fabric.specs.Device.{Device}
use Rattle.fabric.specs.GraphOf.{IsGraph}
use Rattle.fabric.specs.Links.{links_of, routing_of}
use Rattle.fabric.specs.MuxBits.{mux_bits}
use Rattle.fabric_laws.proofs.Members.{in_filter_from, in_filter_to, all_from, all_to, any_from, any_to}
use Rattle.fabric_laws.proofs.SameBits.{same_is, same_refl}
use Rattle.circuit.specs.Parts.{Source, sources}
use Rattle.circuit.specs.Triples.{members}
use Rattle.circuit.specs.Domains.{HasDomain}
use Rattle.upset.specs.Configured.{Configured, circuit_of}
use Rattle.upset.specs.Effect.{IsHit, IsShortSource, touched_names}
use Rattle.upset.specs.Roots.{IsRoot, RootsHave}
use Rattle.upset.specs.Safe.{FlipsHave, IsBad, only, IsSafe}
use Rattle.upset_laws.specs.PlainUpset.{OutputsListed, hit_wires, short_sources, FedWires, fed_wires, same_domain, domains_of, two_domains, is_bad, is_safe}
use Rattle.upset_laws.proofs.Plain.{hit_from, hit_to, short_from, short_to, not_is, not_to}
use Rattle.upset_laws.proofs.Roots.{roots_domains}

-- what the plain computation asks for
record IsPlain (device : Device) (k : Configured) : Type 0 where
  graph : IsGraph device k.graph
  clean : IsClean (routing_of k.graph k.image)
  outputs : OutputsListed k

module _ (device : Device) (k : Configured) (p : IsPlain device k) where
  links_below : ℕ → List ℕ
  links_below o = below (links_of k.graph k.image) o

  as_fed : Source → FedWires
  as_fed s = record { domain = s.domain; wires = below (links_of k.graph k.image) s.out }

  domain_from : (f : FedWires) (w : ℕ) → In (fed_wires k) f → has f.wires w ≡ true → HasDomain (circuit_of k) w f.domain
  unfolding as_fed
  domain_from f w i h =
      let r = of_map as_fed (sources k.cells) f i in
      let there = in_has (below (links_of k.graph k.image) r.0.out) w (ap (λ x. has x.wires w) r.1.1 ∙ h) in
      let feeds : Feeds (routing_of k.graph k.image) r.0.out w = record { output = p.outputs r.0 r.1.0; reach = below_sound (links_of k.graph k.image) r.0.out w there } in
      record { source = r.0; listed = r.1.0; feeds = feeds; only = λ o g. one_feed (routing_of k.graph k.image) p.clean o r.0.out w g feeds; domain = ap (λ x. x.domain) r.1.1 }

  domain_to : (w : ℕ) (d : Domain) → HasDomain (circuit_of k) w d → (f : FedWires) × (In (fed_wires k) f × ((has f.wires w ≡ true) × (f.domain ≡ d)))
  unfolding as_fed
  domain_to w d h = (
    as_fed h.source,
    (in_map as_fed (sources k.cells) h.source h.listed, (has_in (below (links_of k.graph k.image) h.source.out) w (below_complete (links_of k.graph k.image) h.feeds.reach), h.domain)),
  )

  module _ (flips : Bits) where
    roots : List ℕ
    roots = hit_wires k flips ++ short_sources k flips

    root_from : (w : ℕ) → In roots w → IsRoot k flips w
    unfolding roots
    root_from w i = elim (in_either (hit_wires k flips) (short_sources k flips) w i) [
      | inl h ↦ inl (hit_from device k p.graph flips w h)
      | inr s ↦ inr (short_from device k p.graph flips w s)
    ]

    root_to : (w : ℕ) → IsRoot k flips w → In roots w
    unfolding roots
    root_to w h = elim h [
      | inl hit ↦ in_left (hit_wires k flips) (short_sources k flips) w (hit_to device k p.graph flips w hit)
      | inr s ↦ in_right (hit_wires k flips) (short_sources k flips) w (short_to device k p.graph flips w s)
    ]

    fed_domains : List Domain
    fed_domains = map (λ f. f.domain) (filter (λ f. list_any (has f.wires) roots) (fed_wires k))

    touched_domains : List Domain
    touched_domains = map (λ m. m.domain) (filter (λ m. list_any (bytes_eq m.name) (touched_names k.cells flips)) (members k.cells))

    domains_from : (d : Domain) → In (domains_of k (fed_wires k) flips) d → RootsHave k flips d
    unfolding roots fed_domains touched_domains
    domains_from d i = elim (in_either fed_domains touched_domains d i) [
      | inl j ↦ inl (let r = of_map (λ f. f.domain) (filter (λ f. list_any (has f.wires) roots) (fed_wires k)) d j in
          let s = in_filter_from (λ f. list_any (has f.wires) roots) (fed_wires k) r.0 r.1.0 in
          let w = any_from (has r.0.wires) roots s.1 in
          (w.0, (root_from w.0 w.1, subst (HasDomain (circuit_of k) w.0) r.1.1 (domain_from r.0 w.0 s.0 w.2))))
      | inr j ↦ inr (let r = of_map (λ m. m.domain) (filter (λ m. list_any (bytes_eq m.name) (touched_names k.cells flips)) (members k.cells)) d j in
          let s = in_filter_from (λ m. list_any (bytes_eq m.name) (touched_names k.cells flips)) (members k.cells) r.0 r.1.0 in
          let n = any_from (bytes_eq r.0.name) (touched_names k.cells flips) s.1 in
          let same = (bytes_eq-Decides r.0.name n.0).0 n.2 in
          let domain = r.1.1 in
          (n.0, (n.1, subst (In (members k.cells)) (λ z. record { name = same z; domain = domain z }) s.0)))
    ]

    domains_to : (d : Domain) → RootsHave k flips d → In (domains_of k (fed_wires k) flips) d
    unfolding roots fed_domains touched_domains
    domains_to d h = elim h [
      | inl w ↦ in_left fed_domains touched_domains d (let f = domain_to w.0 d w.1.1 in
          subst (In fed_domains) f.1.1.1 (in_map (λ f. f.domain) (filter (λ f. list_any (has f.wires) roots) (fed_wires k)) f.0
          (in_filter_to (λ f. list_any (has f.wires) roots) (fed_wires k) f.0 f.1.0 (any_to (has f.0.wires) roots w.0 (root_to w.0 w.1.0) f.1.1.0))))
      | inr t ↦ in_right fed_domains touched_domains d
          (in_map (λ m. m.domain) (filter (λ m. list_any (bytes_eq m.name) (touched_names k.cells flips)) (members k.cells)) (record { name = t.0; domain = d })
          (in_filter_to (λ m. list_any (bytes_eq m.name) (touched_names k.cells flips)) (members k.cells) (record { name = t.0; domain = d }) t.1.1
          (any_to (bytes_eq t.0) (touched_names k.cells flips) t.0 t.1.0 ((bytes_eq-Decides t.0 t.0).1 refl))))
    ]

    domains_law : (d : Domain) → In (domains_of k (fed_wires k) flips) d ↔ FlipsHave k flips d
    domains_law d = (
      (λ i. (roots_domains k flips p.clean d).1 (domains_from d i)),
      (λ h. domains_to d ((roots_domains k flips p.clean d).0 h)),
    )

different : (d e : Domain) → not (same_domain d e) ≡ true → d ≢ e
different D0 D0 h e = false≢true h
different D0 D1 h e = let no : ⊥ = cc in no
different D0 D2 h e = let no : ⊥ = cc in no
different D1 D0 h e = let no : ⊥ = cc in no
different D1 D1 h e = false≢true h
different D1 D2 h e = let no : ⊥ = cc in no
different D2 D0 h e = let no : ⊥ = cc in no
different D2 D1 h e = let no : ⊥ = cc in no
different D2 D2 h e = false≢true h

differs : (d e : Domain) → d ≢ e → not (same_domain d e) ≡ true
differs D0 D0 n = absurd (n refl)
differs D0 D1 n = refl
differs D0 D2 n = refl
differs D1 D0 n = refl
differs D1 D1 n = absurd (n refl)
differs D1 D2 n = refl
differs D2 D0 n = refl
differs D2 D1 n = refl
differs D2 D2 n = absurd (n refl)

two_from : (ds : List Domain) → two_domains ds ≡ true → (d : Domain) × ((e : Domain) × (In ds d × In ds e × (d ≢ e)))
two_from ds h =
    let r = any_from (λ d. list_any (λ e. not (same_domain d e)) ds) ds h in
    let s = any_from (λ e. not (same_domain r.0 e)) ds r.2 in
    (r.0, (s.0, (r.1, s.1, different r.0 s.0 s.2)))

two_to : (ds : List Domain) (d e : Domain) → In ds d → In ds e → d ≢ e → two_domains ds ≡ true
two_to ds d e i j n = any_to (λ x. list_any (λ y. not (same_domain x y)) ds) ds d i (any_to (λ y. not (same_domain d y)) ds e j (differs d e n))

module _ (device : Device) (k : Configured) (graph : IsGraph device k.graph) (clean : IsClean (routing_of k.graph k.image)) (outputs : OutputsListed k) where
  prepared : IsPlain device k
  prepared = record { graph = graph; clean = clean; outputs = outputs }

  pub domains_listed : (flips : Bits) (d : Domain) → In (domains_of k (fed_wires k) flips) d ↔ FlipsHave k flips d
  domains_listed flips d = domains_law device k prepared flips d

  pub bad_law : (flips : Bits) → (is_bad k flips ≡ true) ↔ IsBad k flips
  bad_law flips = (
    (λ h. let r = two_from (domains_of k (fed_wires k) flips) h in
        (r.0, (r.1.0, ((domains_law device k prepared flips r.0).0 r.1.1.0, (domains_law device k prepared flips r.1.0).0 r.1.1.1, r.1.1.2)))),
    (λ b. two_to (domains_of k (fed_wires k) flips) b.0 b.1.0 ((domains_law device k prepared flips b.0).1 b.1.1.0) ((domains_law device k prepared flips b.1.0).1 b.1.1.1) b.1.1.2),
  )

  pub safe_law : (is_safe k ≡ true) ↔ IsSafe k
  safe_law = (
    (λ h b i bad. let r = any_from (same_bit b) (mux_bits k.graph) i in
        let good = not_is (is_bad k (only r.0)) (all_from (λ x. not (is_bad k (only x))) (mux_bits k.graph) h r.0 r.1) in
        false≢true (sym good ∙ (bad_law (only r.0)).1 (subst (λ x. IsBad k (only x)) (same_is b r.0 r.2) bad))),
    (λ safe. all_to (λ x. not (is_bad k (only x))) (mux_bits k.graph) (λ x i.
        not_to (is_bad k (only x)) (λ e. safe x (any_to (same_bit x) (mux_bits k.graph) x i (same_refl x)) ((bad_law (only x)).0 e)))),
  )

pub hits_law : (device : Device) (k : Configured) → IsGraph device k.graph → (flips : Bits) (w : ℕ) → In (hit_wires k flips) w ↔ IsHit k flips w
hits_law device k graph flips w = (hit_from device k graph flips w, hit_to device k graph flips w)

pub shorts_law : (device : Device) (k : Configured) → IsGraph device k.graph → (flips : Bits) (x : ℕ) → In (short_sources k flips) x ↔ IsShortSource k flips x
shorts_law device k graph flips x = (short_from device k graph flips x, short_to device k graph flips x)
