-- The plain computation of bad flips is what it should be.
use Rattle.std.proofs.Common.{◌≡◌, ℕ, Bool, true, false, ◌⊎◌, ◌↔◌, inl, inr, List, [], ◌∷◌, ◌++◌, map, filter, refl, sym, ap, subst, ◌∙◌, eq-eqb, ne_eqb}
use Rattle.std.specs.Prelude.{not, ◌==◌, ◌&&◌, ◌||◌, slice_get}
use Rattle.std.specs.List.{list_any, list_all}
use Rattle.std.proofs.lemmas.Bool.{false≢true, and_parts, and_from, or_cases, eqb-true}
use Rattle.words.specs.Members.{In}
use Rattle.patterns.specs.Bits.{Bits}
use Rattle.links.proofs.Members.{in_left, in_right, in_either, in_map, of_map, in_flat_map, of_flat_map}
use Rattle.links.proofs.Below.{has_in, in_has}
use Rattle.links.specs.Below.{has}
use Rattle.fabric.specs.Device.{Device}
use Rattle.fabric.specs.Graph.{GraphArc, Graph}
use Rattle.fabric.specs.GraphOf.{IsGraph}
use Rattle.fabric.specs.Links.{arcs_of_mux, is_chosen, link_of}
use Rattle.fabric.specs.MuxBits.{bits_named}
use Rattle.fabric_laws.proofs.Members.{in_filter_from, in_filter_to, all_from, any_from, any_to}
use Rattle.fabric_laws.proofs.Chosen.{arc_links, in_mux_from, in_mux_to}
use Rattle.fabric_laws.proofs.Graphs.{some_same}
use Rattle.fabric_laws.proofs.Standing.{arc_stands}
use Rattle.upset.specs.Configured.{Configured}
use Rattle.upset.specs.After.{is_affected, conducts}
use Rattle.upset.specs.Effect.{Before, After, IsHit, HasTwoAfter, DrivesOutput, IsShortSource}
use Rattle.upset_laws.specs.PlainUpset.{sources_by, sources_before, sources_after, within, affected_wires, hit_wires, has_two, is_joined, short_sources}

-- the sources of a wire are those of the links into it
sources_law : (g : Graph) (test : GraphArc → Bool) (w x : ℕ) → In (sources_by g test w) x ↔ In (map link_of (filter test g.arcs) ++ g.fixed) (record { source = x; sink = w })
sources_law g test w x = (from, to)
  where
    arcs : List GraphArc
    arcs = filter (λ a. a.sink == w) g.arcs

    from : In (sources_by g test w) x → In (map link_of (filter test g.arcs) ++ g.fixed) (record { source = x; sink = w })
    from h = elim (in_either (map (λ a. a.source) (filter test (filter (λ a. a.sink == w) g.arcs))) (map (λ l. l.source) (filter (λ l. l.sink == w) g.fixed)) x h) [
      | inl i ↦ (let r = of_map (λ a. a.source) (filter test (filter (λ a. a.sink == w) g.arcs)) x i in
          let s = in_filter_from test (filter (λ a. a.sink == w) g.arcs) r.0 r.1.0 in
          let t = in_filter_from (λ a. a.sink == w) g.arcs r.0 s.0 in
          let sink = eqb-true r.0.sink w t.1 in
          let source = r.1.1 in
          (arc_links g test (record { source = x; sink = w })).1 (inl (r.0, (t.0, s.1, λ j. record { source = source j; sink = sink j }))))
      | inr i ↦ (let r = of_map (λ l. l.source) (filter (λ l. l.sink == w) g.fixed) x i in
          let t = in_filter_from (λ l. l.sink == w) g.fixed r.0 r.1.0 in
          let sink = eqb-true r.0.sink w t.1 in
          let source = r.1.1 in
          (arc_links g test (record { source = x; sink = w })).1 (inr (subst (In g.fixed) (λ j. record { source = source j; sink = sink j }) t.0)))
    ]

    to : In (map link_of (filter test g.arcs) ++ g.fixed) (record { source = x; sink = w }) → In (sources_by g test w) x
    to h = elim ((arc_links g test (record { source = x; sink = w })).0 h) [
      | inl r ↦ in_left (map (λ a. a.source) (filter test (filter (λ a. a.sink == w) g.arcs))) (map (λ l. l.source) (filter (λ l. l.sink == w) g.fixed)) x
          (subst (In (map (λ a. a.source) (filter test (filter (λ a. a.sink == w) g.arcs)))) (ap (λ l. l.source) r.1.2)
          (in_map (λ a. a.source) (filter test (filter (λ a. a.sink == w) g.arcs)) r.0
          (in_filter_to test (filter (λ a. a.sink == w) g.arcs) r.0 (in_filter_to (λ a. a.sink == w) g.arcs r.0 r.1.0 (eq-eqb r.0.sink w (ap (λ l. l.sink) r.1.2))) r.1.1)))
      | inr i ↦ in_right (map (λ a. a.source) (filter test (filter (λ a. a.sink == w) g.arcs))) (map (λ l. l.source) (filter (λ l. l.sink == w) g.fixed)) x
          (in_map (λ l. l.source) (filter (λ l. l.sink == w) g.fixed) (record { source = x; sink = w }) (in_filter_to (λ l. l.sink == w) g.fixed (record { source = x; sink = w }) i (eq-eqb w w refl)))
    ]

before_law : (k : Configured) (w x : ℕ) → In (sources_before k w) x ↔ Before k x w
before_law k w x = sources_law k.graph (is_chosen k.graph k.image) w x

after_law : (k : Configured) (flips : Bits) (w x : ℕ) → In (sources_after k flips w) x ↔ After k flips x w
after_law k flips w x = sources_law k.graph (conducts k.graph k.image flips) w x

-- where not all of a list pass, one doesn't
one_fails : {X : Type 0} (t : X → Bool) (xs : List X) → list_all t xs ≡ false → (x : X) × (In xs x × (t x ≡ false))
one_fails t [] h = absurd (false≢true (sym h))
one_fails t (y ∷ ys) h = go (t y) refl h (one_fails t ys)
  where
    go : (b : Bool) → t y ≡ b → b && list_all t ys ≡ false → (list_all t ys ≡ false → (x : _) × (In ys x × (t x ≡ false))) → (x : _) × (In (y ∷ ys) x × (t x ≡ false))
    go true e k ih = let r = ih k in (r.0, (inr r.1.0, r.1.1))
    go false e k ih = (y, (inl refl, e))

not_has : (xs : List ℕ) (x : ℕ) → has xs x ≡ false → In xs x → ⊥
not_has xs x h i = false≢true (sym h ∙ has_in xs x i)

-- what is in one list and not in the other
outside : (xs ys : List ℕ) → within xs ys ≡ false → (x : ℕ) × (In xs x × (In ys x → ⊥))
outside xs ys h = let r = one_fails (has ys) xs h in (r.0, (r.1.0, not_has ys r.0 r.1.1))

inside : (xs ys : List ℕ) (x : ℕ) → within xs ys ≡ true → In xs x → In ys x
inside xs ys x h i = in_has ys x (all_from (has ys) xs h x i)

pub not_is : (b : Bool) → not b ≡ true → b ≡ false
not_is true h = absurd (false≢true h)
not_is false h = refl

pub not_to : (b : Bool) → (b ≡ true → ⊥) → not b ≡ true
not_to true n = absurd (n refl)
not_to false n = refl

and_false : (a b : Bool) → a && b ≡ false → (a ≡ false) ⊎ (b ≡ false)
and_false true b h = inr h
and_false false b h = inl refl

-- arcs of one mux drive one wire
same_sink : (device : Device) (g : Graph) → IsGraph device g → (a b : GraphArc) → In g.arcs a → In g.arcs b → a.mux ≡ b.mux → a.sink ≡ b.sink
same_sink device g is a b i j e =
    let p = arc_stands device g is a i in
    let q = arc_stands device g is b j in
    let same : p.mux ≡ q.mux = some_same (sym p.of_mux ∙ ap (slice_get g.muxes) e ∙ q.of_mux) in
    p.same_sink ∙ ap (λ m. m.sink) same ∙ sym q.same_sink

names : Bits → GraphArc → Bool
names flips a = list_any flips (bits_named a.origin a.arc.bits)

-- the wires of arcs that name a bit that flips are those that affected muxes drive
affected_law : (device : Device) (g : Graph) → IsGraph device g → (flips : Bits) (w : ℕ)
    → In (affected_wires g flips) w ↔ ((a : GraphArc) × (In g.arcs a × ((is_affected g flips a.mux ≡ true) × (a.sink ≡ w))))
unfolding names
affected_law device g is flips w = (
  (λ h. let r = of_map (λ a. a.sink) (filter (names flips) g.arcs) w h in
      let s = in_filter_from (names flips) g.arcs r.0 r.1.0 in
      (r.0, (s.0, (any_to (names flips) (arcs_of_mux g r.0.mux) r.0 (in_mux_to g r.0.mux r.0 s.0 refl) s.1, r.1.1)))),
  (λ h. let r = any_from (names flips) (arcs_of_mux g h.0.mux) h.1.1.0 in
      let s = in_mux_from g h.0.mux r.0 r.1 in
      subst (In (affected_wires g flips)) (same_sink device g is r.0 h.0 s.0 h.1.0 s.1 ∙ h.1.1.1)
      (in_map (λ a. a.sink) (filter (names flips) g.arcs) r.0 (in_filter_to (names flips) g.arcs r.0 s.0 r.2))),
)

module _ (device : Device) (k : Configured) (is : IsGraph device k.graph) (flips : Bits) where
  -- the sources of a wire are the same after the flip as before
  stays : ℕ → Bool
  stays w = within (sources_after k flips w) (sources_before k w) && within (sources_before k w) (sources_after k flips w)

  pub hit_from : (w : ℕ) → In (hit_wires k flips) w → IsHit k flips w
  unfolding stays
  hit_from w h =
      let r = in_filter_from (λ v. not (stays v)) (affected_wires k.graph flips) w h in
      let a = (affected_law device k.graph is flips w).0 r.0 in
      let c = changed (and_false (within (sources_after k flips w) (sources_before k w)) (within (sources_before k w) (sources_after k flips w)) (not_is (stays w) r.1)) in
      record { arc = a.0; listed = a.1.0; affected = a.1.1.0; drives = a.1.1.1; source = c.0; differs = c.1 }
    where
      changed : (within (sources_after k flips w) (sources_before k w) ≡ false) ⊎ (within (sources_before k w) (sources_after k flips w) ≡ false)
          → (x : ℕ) × ((After k flips x w × (Before k x w → ⊥)) ⊎ (Before k x w × (After k flips x w → ⊥)))
      changed (inl e) = let o = outside (sources_after k flips w) (sources_before k w) e in (o.0, inl ((after_law k flips w o.0).0 o.1.0, λ b. o.1.1 ((before_law k w o.0).1 b)))
      changed (inr e) = let o = outside (sources_before k w) (sources_after k flips w) e in (o.0, inr ((before_law k w o.0).0 o.1.0, λ a. o.1.1 ((after_law k flips w o.0).1 a)))

  pub hit_to : (w : ℕ) → IsHit k flips w → In (hit_wires k flips) w
  unfolding stays
  hit_to w h = in_filter_to (λ v. not (stays v)) (affected_wires k.graph flips) w
      ((affected_law device k.graph is flips w).1 (h.arc, (h.listed, (h.affected, h.drives))))
      (not_to (stays w) (λ e. let parts = and_parts (within (sources_after k flips w) (sources_before k w)) (within (sources_before k w) (sources_after k flips w)) e in
      elim h.differs [
        | inl d ↦ d.1 ((before_law k w h.source).0 (inside (sources_after k flips w) (sources_before k w) h.source parts.0 ((after_law k flips w h.source).1 d.0)))
        | inr d ↦ d.1 ((after_law k flips w h.source).0 (inside (sources_before k w) (sources_after k flips w) h.source parts.1 ((before_law k w h.source).1 d.0)))
      ]))

  -- the first source of a list that has one
  first_of_list : (xs : List ℕ) → list_any (λ x. true) xs ≡ true → (x : ℕ) × In xs x
  first_of_list xs h = let r = any_from (λ x. true) xs h in (r.0, r.1)

  joined_from : (w : ℕ) → is_joined k flips w ≡ true → HasTwoAfter k flips w ⊎ DrivesOutput k flips w
  joined_from w h = elim (or_cases (has_two (sources_after k flips w)) (has k.graph.outputs w && list_any (λ x. true) (sources_after k flips w)) h) [
    | inl e ↦ inl (let r = any_from (λ x. list_any (λ y. not (x == y)) (sources_after k flips w)) (sources_after k flips w) e in
        let s = any_from (λ y. not (r.0 == y)) (sources_after k flips w) r.2 in
        (r.0, (s.0, ((after_law k flips w r.0).0 r.1, (after_law k flips w s.0).0 s.1, λ same. false≢true (sym (not_is (r.0 == s.0) s.2) ∙ eq-eqb r.0 s.0 same)))))
    | inr e ↦ inr (let parts = and_parts (has k.graph.outputs w) (list_any (λ x. true) (sources_after k flips w)) e in
        let r = first_of_list (sources_after k flips w) parts.1 in
        (in_has k.graph.outputs w parts.0, (r.0, (after_law k flips w r.0).0 r.1)))
  ]

  or_left : (a b : Bool) → a ≡ true → a || b ≡ true
  or_left true b h = refl
  or_left false b h = absurd (false≢true h)

  or_right : (a b : Bool) → b ≡ true → a || b ≡ true
  or_right true b h = refl
  or_right false b h = h

  joined_to : (w : ℕ) → HasTwoAfter k flips w ⊎ DrivesOutput k flips w → is_joined k flips w ≡ true
  joined_to w (inl h) = or_left (has_two (sources_after k flips w)) (has k.graph.outputs w && list_any (λ x. true) (sources_after k flips w))
      (any_to (λ x. list_any (λ y. not (x == y)) (sources_after k flips w)) (sources_after k flips w) h.0 ((after_law k flips w h.0).1 h.1.1.0)
      (any_to (λ y. not (h.0 == y)) (sources_after k flips w) h.1.0 ((after_law k flips w h.1.0).1 h.1.1.1) (ap not (ne_eqb h.0 h.1.0 h.1.1.2))))
  joined_to w (inr h) = or_right (has_two (sources_after k flips w)) (has k.graph.outputs w && list_any (λ x. true) (sources_after k flips w))
      (and_from (has k.graph.outputs w) (list_any (λ x. true) (sources_after k flips w)) (has_in k.graph.outputs w h.0)
      (any_to (λ x. true) (sources_after k flips w) h.1.0 ((after_law k flips w h.1.0).1 h.1.1) refl))

  pub short_from : (x : ℕ) → In (short_sources k flips) x → IsShortSource k flips x
  short_from x h =
      let r = of_flat_map (sources_after k flips) (filter (is_joined k flips) (hit_wires k flips)) x h in
      let s = in_filter_from (is_joined k flips) (hit_wires k flips) r.0 r.1.0 in
      record { sink = r.0; shorted = record { hit = hit_from r.0 s.0; joined = joined_from r.0 s.1 }; after = (after_law k flips r.0 x).0 r.1.1 }

  pub short_to : (x : ℕ) → IsShortSource k flips x → In (short_sources k flips) x
  short_to x h = in_flat_map (sources_after k flips) (filter (is_joined k flips) (hit_wires k flips)) h.sink x
      (in_filter_to (is_joined k flips) (hit_wires k flips) h.sink (hit_to h.sink h.shorted.hit) (joined_to h.sink h.shorted.joined)) ((after_law k flips h.sink x).1 h.after)
