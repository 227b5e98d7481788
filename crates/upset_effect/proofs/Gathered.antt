-- The sources of a wire after a flip.
use Rattle.std.proofs.Common.{◌≡◌, ℕ, ◌+◌, ◌<◌, ◌≤◌, Bool, true, false, List, [], ◌∷◌, ◌++◌, length, flat_map, take, get_or, cond, Some, option_map, refl, sym, ap, ap₂, subst, ◌∙◌, inl, inr, eq-eqb}
use Rattle.std.specs.Prelude.{slice_get, ◌==◌, if◌then◌else◌}
use Rattle.std.specs.Ordering.{nat_cmp}
use Rattle.std.specs.Option.{option_map_or}
use Rattle.std.proofs.lemmas.Bool.{eqb-true}
use Rattle.std.proofs.lemmas.List.{append-nil, flat_map_more, take_all, take_more}
use Rattle.std.proofs.lemmas.Option.{slice_get_within}
use Rattle.words.specs.Members.{In}
use Rattle.patterns.specs.Bits.{Bits}
use Rattle.links.specs.Links.{Link}
use Rattle.links.proofs.Members.{in_left, in_right, in_either, in_flat_map, of_flat_map}
use Rattle.fabric.specs.Device.{Device}
use Rattle.fabric.specs.InOrder.{InOrderOnce}
use Rattle.fabric.specs.Graph.{GraphMux, GraphArc, Graph}
use Rattle.fabric.specs.GraphOf.{IsGraph}
use Rattle.fabric_laws.proofs.Chosen.{arc_links}
use Rattle.fabric_laws.proofs.Graphs.{some_same}
use Rattle.fabric_laws.proofs.Numbered.{get_in, number_there}
use Rattle.fabric_laws.proofs.Standing.{arc_stands}
use Rattle.graph_lists.specs.ArcLists.{ArcNumbers, arcs_in, muxes_into, numbers_of}
use Rattle.graph_lists.specs.FixedLists.{links_into}
use Rattle.graph_lists.proofs.Listed.{place_from, place_to}
use Rattle.graph_lists.proofs.Pairs.{into_is, into_has}
use Rattle.chosen_links.proofs.Standing.{had}
use Rattle.upset.specs.After.{conducts}
use Rattle.upset_effect.specs.declared.rule.MuxRule.{MuxRule}
use Rattle.upset_effect.specs.Passing.{IsRuleOf, mux_sources, passes, source_by}
use Rattle.upset_effect.specs.Reach.{AreThose, IsAfter}

-- one source of an arc that passes
abbrev pub one_if : (GraphArc → Bool) → GraphArc → List ℕ
one_if test x = if test x then x.source ∷ [] else []

-- what is added for an arc
pub added : (g : Graph) (test : GraphArc → Bool) (a : ℕ) (b : Bool) (n : ArcNumbers) (old new : List ℕ) → option_map test (slice_get g.arcs a) ≡ Some b
    → option_map numbers_of (slice_get g.arcs a) ≡ Some n → new ≡ cond b (old ++ n.source ∷ []) old → new ≡ old ++ source_by g test a
added g test a b n old new h k made =
    let t = had test (slice_get g.arcs a) b h in
    let m = had numbers_of (slice_get g.arcs a) n k in
    let same : m.element ≡ t.element = some_same (sym m.there ∙ t.there) in
    let source : t.element.source ≡ n.source = ap (λ (x : GraphArc). x.source) (sym same) ∙ ap (λ (x : ArcNumbers). x.source) m.is in
    made ∙ (go b n.source
    ∙ sym (ap (λ o. old ++ option_map_or (one_if test) o []) t.there ∙ ap₂ (λ (c : Bool) (s : ℕ). old ++ cond c (s ∷ []) []) t.is source))
  where
    go : (c : Bool) (s : ℕ) → cond c (old ++ s ∷ []) old ≡ old ++ cond c (s ∷ []) []
    go true s = refl
    go false s = sym (append-nil old)

-- one more element of a list
pub flat_more : {X : Type 0} (f : X → List ℕ) (xs : List X) (i : ℕ) (x : X) (first old new : List ℕ) → i < length xs → x ≡ get_or xs i x
    → old ≡ first ++ flat_map f (take i xs) → new ≡ old ++ f x → new ≡ first ++ flat_map f (take (i + 1) xs)
flat_more f xs i x first old new below is so_far made =
    made ∙ (ap (λ zs. zs ++ f x) so_far ∙ (flat_map_more f first (take i xs) x
    ∙ ap (λ zs. first ++ flat_map f zs) (ap (λ z. take i xs ++ z ∷ []) is ∙ sym (take_more xs i x below))))

pub flat_all : {X : Type 0} (f : X → List ℕ) (xs : List X) (i : ℕ) (first new : List ℕ) → length xs ≤ i → new ≡ first ++ flat_map f (take i xs) → new ≡ first ++ flat_map f xs
flat_all f xs i first new past so_far = so_far ∙ ap (λ zs. first ++ flat_map f zs) (take_all i xs past)

flat_same : {X : Type 0} (f h : X → List ℕ) (xs : List X) → ((x : X) → In xs x → f x ≡ h x) → flat_map f xs ≡ flat_map h xs
flat_same f h [] same = refl
flat_same f h (x ∷ xs) same = ap₂ (λ (us vs : List ℕ). us ++ vs) (same x (inl refl)) (flat_same f h xs (λ y i. same y (inr i)))

-- by the rule of a mux those of its arcs pass that conduct
pub by_rule : (g : Graph) (image flips : Bits) (m : ℕ) (rule : MuxRule) → IsRuleOf g image flips m rule
    → flat_map (source_by g (passes image flips rule)) (arcs_in g m) ≡ mux_sources g image flips m
by_rule g image flips m rule is =
    flat_same (source_by g (passes image flips rule)) (source_by g (conducts g image flips)) (arcs_in g m) (λ a i.
    let r = place_from (λ (x : GraphArc). x.mux == m) g.arcs a i in
    let same = is r.0 (get_in g.arcs a r.0 r.1.0) (eqb-true r.0.mux m r.1.1) in
    ap (λ o. option_map_or (one_if (passes image flips rule)) o []) r.1.0
    ∙ (ap (λ (c : Bool). cond c (r.0.source ∷ []) []) same ∙ sym (ap (λ o. option_map_or (one_if (conducts g image flips)) o []) r.1.0)))

-- the muxes of a wire have numbers below the count
pub mux_below : (g : Graph) (w m : ℕ) → In (muxes_into g w) m → m < length g.muxes
mux_below g w m i = let r = place_from (λ (x : GraphMux). x.sink == w) g.muxes m i in slice_get_within g.muxes m r.0 r.1.0

-- a source that one arc has
record IsSourceBy (g : Graph) (test : GraphArc → Bool) (a x : ℕ) : Type 0 where
  arc : GraphArc
  there : slice_get g.arcs a ≡ Some arc
  passes : test arc ≡ true
  is : arc.source ≡ x

source_from : (g : Graph) (test : GraphArc → Bool) (a x : ℕ) (arc : GraphArc) → slice_get g.arcs a ≡ Some arc → In (source_by g test a) x → IsSourceBy g test a x
source_from g test a x arc at i = go (test arc) refl (subst (λ (zs : List ℕ). In zs x) (ap (λ o. option_map_or (one_if test) o []) at) i)
  where
    go : (b : Bool) → test arc ≡ b → In (cond b (arc.source ∷ []) []) x → IsSourceBy g test a x
    go true e j = elim j [ inl s ↦ record { arc = arc; there = at; passes = e; is = s } | inr n ↦ absurd n ]
    go false e j = absurd j

source_to : (g : Graph) (test : GraphArc → Bool) (a x : ℕ) (arc : GraphArc) → slice_get g.arcs a ≡ Some arc → test arc ≡ true → arc.source ≡ x → In (source_by g test a) x
source_to g test a x arc at e s =
    subst (λ (zs : List ℕ). In zs x) (sym (ap (λ o. option_map_or (one_if test) o []) at ∙ ap (λ (c : Bool). cond c (arc.source ∷ []) []) e)) (inl s)

module _ (device : Device) (g : Graph) (is : IsGraph device g) (image flips : Bits) (w : ℕ) where
  -- the sources as they are gathered
  gathered : List ℕ
  gathered = flat_map (mux_sources g image flips) (muxes_into g w) ++ links_into g.fixed w

  after_from : (x : ℕ) → In gathered x → IsAfter g image flips w x
  unfolding gathered
  after_from x h = elim (in_either (flat_map (mux_sources g image flips) (muxes_into g w)) (links_into g.fixed w) x h) [
    | inl i ↦ (let m = of_flat_map (mux_sources g image flips) (muxes_into g w) x i in
        let mux = place_from (λ (y : GraphMux). y.sink == w) g.muxes m.0 m.1.0 in
        let a = of_flat_map (source_by g (conducts g image flips)) (arcs_in g m.0) x m.1.1 in
        let arc = place_from (λ (y : GraphArc). y.mux == m.0) g.arcs a.0 a.1.0 in
        let s = source_from g (conducts g image flips) a.0 x arc.0 arc.1.0 a.1.1 in
        let same : s.arc ≡ arc.0 = some_same (sym s.there ∙ arc.1.0) in
        let listed = get_in g.arcs a.0 s.arc s.there in
        let stands = arc_stands device g is s.arc listed in
        let number : s.arc.mux ≡ m.0 = ap (λ (y : GraphArc). y.mux) same ∙ eqb-true arc.0.mux m.0 arc.1.1 in
        let one : stands.mux ≡ mux.0 = some_same (sym stands.of_mux ∙ (ap (λ n. slice_get g.muxes n) number ∙ mux.1.0)) in
        let sink : s.arc.sink ≡ w = stands.same_sink ∙ (ap (λ (y : GraphMux). y.sink) one ∙ eqb-true mux.0.sink w mux.1.1) in
        let source = s.is in
        (arc_links g (conducts g image flips) (record { source = x; sink = w })).1 (inl (s.arc, (listed, s.passes, λ j. record { source = source j; sink = sink j }))))
    | inr i ↦ (arc_links g (conducts g image flips) (record { source = x; sink = w })).1 (inr (into_is g.fixed x w i))
  ]

  after_to : (x : ℕ) → IsAfter g image flips w x → In gathered x
  unfolding gathered
  after_to x h = elim ((arc_links g (conducts g image flips) (record { source = x; sink = w })).0 h) [
    | inl r ↦ (let k = number_there g.arcs r.0 r.1.0 in
        let stands = arc_stands device g is r.0 r.1.0 in
        let sink : stands.mux.sink ≡ w = sym stands.same_sink ∙ ap (λ (l : Link). l.sink) r.1.2 in
        in_left (flat_map (mux_sources g image flips) (muxes_into g w)) (links_into g.fixed w) x
        (in_flat_map (mux_sources g image flips) (muxes_into g w) r.0.mux x
        (place_to (λ (y : GraphMux). y.sink == w) g.muxes r.0.mux stands.mux stands.of_mux (eq-eqb stands.mux.sink w sink))
        (in_flat_map (source_by g (conducts g image flips)) (arcs_in g r.0.mux) k.0 x
        (place_to (λ (y : GraphArc). y.mux == r.0.mux) g.arcs k.0 r.0 k.1 (eq-eqb r.0.mux r.0.mux refl))
        (source_to g (conducts g image flips) k.0 x r.0 k.1 r.1.1 (ap (λ (l : Link). l.source) r.1.2)))))
    | inr i ↦ in_right (flat_map (mux_sources g image flips) (muxes_into g w)) (links_into g.fixed w) x (into_has g.fixed x w i)
  ]

  -- the sources in order, once all are gathered
  pub are_after : (muxes fixed all kept : List ℕ) → muxes ≡ flat_map (mux_sources g image flips) (muxes_into g w) → fixed ≡ links_into g.fixed w → all ≡ muxes ++ fixed
      → InOrderOnce nat_cmp all kept → AreThose (IsAfter g image flips w) kept
  unfolding gathered
  are_after muxes fixed all kept p q r order =
      let e : all ≡ gathered = r ∙ ap₂ (λ (us vs : List ℕ). us ++ vs) p q in record {
        rising = order.rising;
        members = λ x. (
          (λ i. after_from x (subst (λ (zs : List ℕ). In zs x) e ((order.members x).0 i))),
          (λ h. (order.members x).1 (subst (λ (zs : List ℕ). In zs x) (sym e) (after_to x h))),
        );
      }
