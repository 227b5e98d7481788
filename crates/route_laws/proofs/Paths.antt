-- The plain list of first paths holds the path of a connection, where that is light enough.
use Rattle.std.proofs.Common.{◌≡◌, ◌≢◌, ℕ, zero, suc, ◌+◌, ◌<◌, ◌≤◌, Bool, true, false, cond, ◌⊎◌, ◌↔◌, inl, inr, List, [], ◌∷◌, map, filter, length, refl, sym, subst, arith}
use Rattle.std.specs.Prelude.{flat_map, not, nat_lt}
use Rattle.std.specs.List.{list_all}
use Rattle.std.specs.Ordering.{is_gt}
use Rattle.std.specs.declared.cmp.Ordering.{Ordering}
use Rattle.std.specs.declared.cmp.Ordering.TheVariants.{Less, Equal, Greater}
use Rattle.std.specs.Cmp.Lexicographic.{slice_cmp}
use Rattle.std.proofs.lemmas.Bool.{false≢true}
use Rattle.words.specs.Members.{In}
use Rattle.links.specs.Links.{Link}
use Rattle.links.proofs.Members.{same_number, in_left, in_right, in_either, in_map, of_map, in_flat_map, of_flat_map}
use Rattle.links.proofs.Below.{below_sound, below_complete}
use Rattle.links.specs.Below.{below, has}
use Rattle.fabric.specs.Device.{Device}
use Rattle.fabric.specs.Graph.{GraphArc}
use Rattle.fabric.specs.GraphOf.{arc_cmp}
use Rattle.paths.specs.Paths.{LeadsOn}
use Rattle.repair.specs.Turns.{Turn, routing}
use Rattle.repair.specs.Usable.{IsUsable}
use Rattle.repair.specs.Routes.{roads_for, IsRoute, IsTheRoute}
use Rattle.route_laws.specs.PlainCuts.{tree_of, reached, leaving}
use Rattle.route_laws.specs.PlainPaths.{paths_from, usable_near, paths_within, weight_by, comes_first, first_paths}
use Rattle.route_laws.proofs.Tests.{Tells, told, tells_and, tells_or, tells_all, tells_less, filtered, tells_number, tells_has}
use Rattle.route_laws.proofs.Rules.{IsToldBy}
use Rattle.route_laws.proofs.UsableTests.{usable_law}
use Rattle.route_laws.proofs.Cuts.{tree_law, leaving_law}

-- arcs of a list lead on from some wires to a pin
abbrev Leads : List Link → List GraphArc → ℕ → List GraphArc → List ℕ → Type 0
Leads links arcs pin [] ws = In ws pin
Leads links arcs pin (a ∷ rest) ws = In ws a.source × (In arcs a × Leads links arcs pin rest (below links a.sink))

module _ (links : List Link) (arcs : List GraphArc) (pin : ℕ) where
  empty_from : (b : Bool) (path : List GraphArc) → In (cond b ([] ∷ []) []) path → (b ≡ true) × ([] ≡ path)
  empty_from true path i = elim i [ inl e ↦ (refl, e) | inr n ↦ absurd n ]
  empty_from false path i = absurd i

  empty_to : (b : Bool) → b ≡ true → In {X = List GraphArc} (cond b ([] ∷ []) []) []
  empty_to true e = inl refl
  empty_to false e = absurd (false≢true e)

  of_empty : (ws : List ℕ) (path : List GraphArc) → In (cond (has ws pin) ([] ∷ []) []) path → Leads links arcs pin path ws
  of_empty ws path i = let e = empty_from (has ws pin) path i in subst (λ p. Leads links arcs pin p ws) e.1 ((tells_has ws pin).from e.0)

  -- those that begin with an arc, by what follows it
  behind : ℕ → GraphArc → List (List GraphArc)
  behind n a = map (λ rest. a ∷ rest) (paths_from links arcs pin n (below links a.sink))

  starting : List ℕ → List GraphArc
  starting ws = filter (λ a. has ws a.source) arcs

  started : (ws : List ℕ) (a : GraphArc) → In (starting ws) a ↔ (In arcs a × In ws a.source)
  unfolding starting
  started ws a = filtered (λ a. has ws a.source) (λ a. In ws a.source) arcs (λ x i. tells_has ws x.source) a

  pub leads_from : (n : ℕ) (ws : List ℕ) (path : List GraphArc) → In (paths_from links arcs pin n ws) path → Leads links arcs pin path ws × (length path ≤ n)
  unfolding behind starting
  leads_from zero ws path i = (of_empty ws path i, subst (λ p. length p ≤ 0) (empty_from (has ws pin) path i).1 (omega arith))
  leads_from (suc n) ws path i = elim (in_either (cond (has ws pin) ([] ∷ []) []) (flat_map (behind n) (starting ws)) path i) [
    | inl j ↦ (of_empty ws path j, subst (λ p. length p ≤ suc n) (empty_from (has ws pin) path j).1 (omega arith))
    | inr j ↦ (let r = of_flat_map (behind n) (starting ws) path j in
        let s = (started ws r.0).0 r.1.0 in
        let m = of_map (λ rest. r.0 ∷ rest) (paths_from links arcs pin n (below links r.0.sink)) path r.1.1 in
        let l = leads_from n (below links r.0.sink) m.0 m.1.0 in
        let short : length m.0 ≤ n = l.1 in
        (subst (λ p. Leads links arcs pin p ws) m.1.1 (s.1, (s.0, l.0)), subst (λ p. length p ≤ suc n) m.1.1 (omega arith)))
  ]

  pub leads_to : (n : ℕ) (ws : List ℕ) (path : List GraphArc) → Leads links arcs pin path ws → length path ≤ n → In (paths_from links arcs pin n ws) path
  unfolding behind starting
  leads_to zero ws [] h l = empty_to (has ws pin) ((tells_has ws pin).to h)
  leads_to zero ws (a ∷ rest) h l = absurd (omega arith)
  leads_to (suc n) ws [] h l = in_left (cond (has ws pin) ([] ∷ []) []) (flat_map (behind n) (starting ws)) [] (empty_to (has ws pin) ((tells_has ws pin).to h))
  leads_to (suc n) ws (a ∷ rest) h l = in_right (cond (has ws pin) ([] ∷ []) []) (flat_map (behind n) (starting ws)) (a ∷ rest)
      (in_flat_map (behind n) (starting ws) a (a ∷ rest) ((started ws a).1 (h.1.0, h.0))
      (in_map (λ r. a ∷ r) (paths_from links arcs pin n (below links a.sink)) rest (leads_to n (below links a.sink) rest h.1.1 (omega arith))))

-- what is reached over fewer arcs is reached over more
reached_more : (links : List Link) (arcs : List GraphArc) (ws : List ℕ) (m n w : ℕ) → m ≤ n → In (reached links arcs ws m) w → In (reached links arcs ws n) w
reached_more links arcs ws m zero w l i = let e : m ≡ 0 = omega arith in subst (λ k. In (reached links arcs ws k) w) e i
reached_more links arcs ws m (suc n) w l i = elim (same_number m (suc n)) [
  | inl e ↦ subst (λ k. In (reached links arcs ws k) w) e i
  | inr d ↦ in_left (reached links arcs ws n) (flat_map (λ a. below links a.sink) (filter (λ a. has (reached links arcs ws n) a.source) arcs)) w
      (reached_more links arcs ws m n w (omega arith) i)
]

-- an arc leads one further
reached_on : (links : List Link) (arcs : List GraphArc) (ws : List ℕ) (n : ℕ) (a : GraphArc) → In arcs a → In (reached links arcs ws n) a.source
    → (w : ℕ) → In (below links a.sink) w → In (reached links arcs ws (suc n)) w
reached_on links arcs ws n a i j w k = in_right (reached links arcs ws n) (flat_map (λ a. below links a.sink) (filter (λ a. has (reached links arcs ws n) a.source) arcs)) w
    (in_flat_map (λ a. below links a.sink) (filter (λ a. has (reached links arcs ws n) a.source) arcs) a w
    ((filtered (λ a. has (reached links arcs ws n) a.source) _ arcs (λ x i. tells_has (reached links arcs ws n) x.source) a).1 (i, j)) k)

module _ (device : Device) (t : Turn) (p : IsToldBy device t.now) (n pin : ℕ) where
  -- the wires to which so many arcs lead
  abbrev near : ℕ → List ℕ
  near m = reached (routing t.now).links t.now.graph.arcs (tree_of t) m

  usable_is : (a : GraphArc) → In (usable_near t n) a ↔ ((In t.now.graph.arcs a × In (near n) a.source) × IsUsable t a)
  usable_is a =
      let law = usable_law device t p (leaving t (near n)) (λ b i. ((leaving_law t (near n) b).0 i).0) a in
      let leave = leaving_law t (near n) a in
      ((λ i. (leave.0 (law.0 i).0, (law.0 i).1)), (λ h. law.1 (leave.1 h.0, h.1)))

  lead_from : (w : ℕ) (path : List GraphArc) → Leads (routing t.now).links (usable_near t n) pin path (below (routing t.now).links w) → LeadsOn (roads_for t) w path pin
  lead_from w [] h = below_sound (routing t.now).links w pin h
  lead_from w (a ∷ rest) h = (below_sound (routing t.now).links w a.source h.0, ((usable_is a).0 h.1.0).1, lead_from a.sink rest h.1.1)

  route_from : (path : List GraphArc) → Leads (routing t.now).links (usable_near t n) pin path (tree_of t) → IsRoute t path pin
  route_from [] h = (tree_law t pin).0 h
  route_from (a ∷ rest) h = ((tree_law t a.source).0 h.0, ((usable_is a).0 h.1.0).1, lead_from a.sink rest h.1.1)

  lead_to : (m w : ℕ) (path : List GraphArc) → ((v : ℕ) → In (below (routing t.now).links w) v → In (near m) v) → m + length path ≤ n
      → LeadsOn (roads_for t) w path pin → Leads (routing t.now).links (usable_near t n) pin path (below (routing t.now).links w)
  lead_to m w [] at l h = below_complete (routing t.now).links h
  lead_to m w (a ∷ rest) at l h =
      let there = below_complete (routing t.now).links h.0 in
      let listed = h.1.routable.listed in
      let there_now = reached_more (routing t.now).links t.now.graph.arcs (tree_of t) m n a.source (omega arith) (at a.source there) in (
        there,
        (
          (usable_is a).1 ((listed, there_now), h.1),
          lead_to (suc m) a.sink rest (reached_on (routing t.now).links t.now.graph.arcs (tree_of t) m a listed (at a.source there)) (omega arith) h.2,
        ),
      )

  route_to : (path : List GraphArc) → length path ≤ n → IsRoute t path pin → Leads (routing t.now).links (usable_near t n) pin path (tree_of t)
  route_to [] l h = (tree_law t pin).1 h
  route_to (a ∷ rest) l h =
      let there = (tree_law t a.source).1 h.0 in
      let listed = h.1.routable.listed in
      let there_now = reached_more (routing t.now).links t.now.graph.arcs (tree_of t) 0 n a.source (omega arith) there in
      (there, ((usable_is a).1 ((listed, there_now), h.1), lead_to 1 a.sink rest (reached_on (routing t.now).links t.now.graph.arcs (tree_of t) 0 a listed there) (omega arith) h.2))

  pub paths_law : (path : List GraphArc) → In (paths_within t n pin) path ↔ (IsRoute t path pin × (length path ≤ n))
  paths_law path = (
    (λ i. let l = leads_from (routing t.now).links (usable_near t n) pin n (tree_of t) path i in (route_from path l.0, l.1)),
    (λ h. leads_to (routing t.now).links (usable_near t n) pin n (tree_of t) path (route_to path h.1 h.0) h.1),
  )

-- a path weighs at least as much as it has arcs
heavy : (rims : List (List ℕ)) (t : Turn) (path : List GraphArc) → length path ≤ weight_by rims t path
heavy rims t [] = omega arith
heavy rims t (a ∷ rest) = let h = heavy rims t rest in omega arith

gt_from : (o : Ordering) → not (is_gt o) ≡ true → o ≢ Greater
gt_from Less h e = let no : ⊥ = cc in no
gt_from Equal h e = let no : ⊥ = cc in no
gt_from Greater h e = false≢true h

gt_to : (o : Ordering) → o ≢ Greater → not (is_gt o) ≡ true
gt_to Less n = refl
gt_to Equal n = refl
gt_to Greater n = absurd (n refl)

module _ (rims : List (List ℕ)) (t : Turn) (path other : List GraphArc) where
  ComesFirst : Type 0
  ComesFirst = (weight_by rims t path < weight_by rims t other) ⊎ ((weight_by rims t path ≡ weight_by rims t other) × (slice_cmp arc_cmp path other ≢ Greater))

  tells_first : Tells (comes_first rims t path other) ComesFirst
  unfolding ComesFirst
  tells_first = tells_or (tells_less (weight_by rims t path) (weight_by rims t other))
      (tells_and (tells_number (weight_by rims t path) (weight_by rims t other)) (record { from = gt_from (slice_cmp arc_cmp path other); to = gt_to (slice_cmp arc_cmp path other) }))

  lighter : ComesFirst → weight_by rims t path ≤ weight_by rims t other
  unfolding ComesFirst
  lighter h = elim h [ inl l ↦ omega arith | inr e ↦ (let same = e.0 in omega arith) ]

  not_behind : ComesFirst → weight_by rims t other ≡ weight_by rims t path → slice_cmp arc_cmp path other ≢ Greater
  unfolding ComesFirst
  not_behind h e = elim h [ inl l ↦ absurd (omega arith) | inr f ↦ f.1 ]

module _ (device : Device) (t : Turn) (p : IsToldBy device t.now) (rims : List (List ℕ)) (n pin : ℕ) where
  firsts : (path : List GraphArc) → In (first_paths rims t n pin) path ↔ (In (paths_within t n pin) path × ((other : List GraphArc) → In (paths_within t n pin) other → ComesFirst rims t path other))
  firsts path = filtered (λ path. list_all (comes_first rims t path) (paths_within t n pin)) (λ path. (other : List GraphArc) → In (paths_within t n pin) other → ComesFirst rims t path other)
      (paths_within t n pin) (λ x i. tells_all (comes_first rims t x) (ComesFirst rims t x) (tells_first rims t x) (paths_within t n pin)) path

  -- a path has at most so many arcs, or it weighs more
  short_or_heavy : (other : List GraphArc) → (length other ≤ n) ⊎ (n < weight_by rims t other)
  short_or_heavy other = elim (told (nat_lt n (length other)) (tells_less n (length other))) [
    | inl l ↦ inr (let h = heavy rims t other in omega arith)
    | inr k ↦ inl (omega arith)
  ]

  first_to : (path : List GraphArc) → IsTheRoute rims t path pin → (other : List GraphArc) → IsRoute t other pin → ComesFirst rims t path other
  unfolding ComesFirst
  first_to path r other q = elim (same_number (weight_by rims t path) (weight_by rims t other)) [
    | inl e ↦ inr (e, r.first other q (sym e))
    | inr d ↦ inl (let l = r.least other q in omega arith)
  ]

  -- of paths that weigh so much at most, just the first is in the list
  pub route_law : (path : List GraphArc) → weight_by rims t path ≤ n → In (first_paths rims t n pin) path ↔ IsTheRoute rims t path pin
  route_law path light = (
    (λ i. let f = (firsts path).0 i in
        record {
          is_path = ((paths_law device t p n pin path).0 f.0).0;
          least = λ other r. elim (short_or_heavy other) [
            | inl s ↦ lighter rims t path other (f.1 other ((paths_law device t p n pin other).1 (r, s)))
            | inr h ↦ omega arith
          ];
          first = λ other r e. elim (short_or_heavy other) [
            | inl s ↦ not_behind rims t path other (f.1 other ((paths_law device t p n pin other).1 (r, s))) e
            | inr h ↦ absurd (omega arith)
          ];
        }),
    (λ r. (firsts path).1 (
      (paths_law device t p n pin path).1 (r.is_path, (let h = heavy rims t path in omega arith)),
      λ other i. first_to path r other ((paths_law device t p n pin other).0 i).0,
    )),
  )
