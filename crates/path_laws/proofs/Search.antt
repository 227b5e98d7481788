-- Over finite roads there is the path or the least cut.
use Rattle.std.proofs.Common.{◌≡◌, ◌≢◌, ℕ, ◌≤◌, ◌⊎◌, ◌↔◌, inl, inr, List, [], ◌∷◌, ◌++◌, map, length, refl, sym, ap, subst, ◌∙◌, arith}
use Rattle.std.proofs.lemmas.Bool.{cases_lt}
use Rattle.std.specs.List.{flat_map}
use Rattle.std.specs.declared.cmp.Ordering.{Ordering}
use Rattle.std.specs.declared.cmp.Ordering.TheVariants.{Less, Equal, Greater}
use Rattle.std.specs.Ordering.{nat_cmp, ordering_then, ordering_reverse, on, then_cmp}
use Rattle.std.specs.Cmp.{IsTotalOrder, nat_cmp_total, nat_cmp_is, on_total, then_total}
use Rattle.std.specs.Cmp.Lexicographic.{slice_cmp, lists_total}
use Rattle.words.specs.Members.{In}
use Rattle.words.proofs.Decided.{Decided, both, never, decided_by, chosen}
use Rattle.links.specs.Links.{Link, Reaches, here, onto}
use Rattle.links.proofs.Members.{in_left, in_right, in_either, in_map, of_map, in_flat_map, of_flat_map, is_in, same_number}
use Rattle.links.proofs.Below.{below_sound, below_complete}
use Rattle.links.proofs.Walks.{reaches_by}
use Rattle.links.specs.Below.{below}
use Rattle.paths.specs.Roads.{Roads, IsBelow}
use Rattle.paths.specs.Paths.{LeadsOn, IsPath, weight_of, IsThePath}
use Rattle.paths.specs.Cuts.{IsLeastCut, IsInRim, IsBlockedBy}
use Rattle.path_laws.proofs.Sorted.{Ranked, ranked, increases, one_list}
use Rattle.path_laws.proofs.Leading.{IsClosed, path_stays, path_link, path_arc, path_taken}
use Rattle.path_laws.proofs.UpTo.{lists_up_to, in_lists}

-- the least element of a list
pub record Least {X : Type 0} (cmp : X → X → Ordering) (xs : List X) : Type 0 where
  pub element : X
  pub listed : In xs element
  pub least : (x : X) → In xs x → cmp element x ≢ Greater

module _ {X : Type 0} (cmp : X → X → Ordering) (total : IsTotalOrder cmp) where
  reflexive : (x y : X) → x ≡ y → cmp x y ≢ Greater
  reflexive x y e h = turn (cmp x x) (total.antisymm x x) (subst (λ z. cmp x z ≡ Greater) (sym e) h)
    where
      turn : (o : Ordering) → o ≡ ordering_reverse o → o ≢ Greater
      turn Less h = absurd (let no : ⊥ = cc in no)
      turn Equal h = λ e. let no : ⊥ = cc in no
      turn Greater h = absurd (let no : ⊥ = cc in no)

  -- x isn't later than y, nor y than z
  not_after : (x y z : X) → cmp x y ≢ Greater → cmp y z ≢ Greater → cmp x z ≢ Greater
  not_after x y z p q = by (cmp x y) refl (cmp y z) refl p q
    where
      by : (a : Ordering) → cmp x y ≡ a → (b : Ordering) → cmp y z ≡ b → a ≢ Greater → b ≢ Greater → cmp x z ≢ Greater
      by Greater s b t p q = absurd (p refl)
      by Equal s b t p q = λ h. q (sym t ∙ (sym (total.congr x y z s) ∙ h))
      by Less s Greater t p q = absurd (q refl)
      by Less s Less t p q = λ h. let l = total.trans x y z s t in let no : ⊥ = cc in no
      by Less s Equal t p q = λ h.
          let back : cmp z y ≡ Equal = equal_back (cmp z y) (sym t ∙ total.antisymm y z) in
          let turned : cmp x z ≡ ordering_reverse (cmp z x) = total.antisymm x z in
          let c : cmp z x ≡ cmp y x = total.congr z y x back in
          let d : cmp x y ≡ ordering_reverse (cmp y x) = total.antisymm x y in
          let e : cmp x z ≡ cmp x y = turned ∙ (ap ordering_reverse c ∙ sym d) in
          let no : ⊥ = cc in no
        where
          equal_back : (o : Ordering) → Equal ≡ ordering_reverse o → o ≡ Equal
          equal_back Less h = absurd (let no : ⊥ = cc in no)
          equal_back Equal h = refl
          equal_back Greater h = absurd (let no : ⊥ = cc in no)

  earlier : (x y : X) → (cmp x y ≡ Greater) ⊎ (cmp x y ≢ Greater)
  earlier x y = by (cmp x y) refl
    where
      by : (a : Ordering) → cmp x y ≡ a → (cmp x y ≡ Greater) ⊎ (cmp x y ≢ Greater)
      by Less e = inr (λ h. let no : ⊥ = cc in no)
      by Equal e = inr (λ h. let no : ⊥ = cc in no)
      by Greater e = inl e

  later_turned : (x y : X) → cmp x y ≡ Greater → cmp y x ≢ Greater
  later_turned x y h k = let t = total.antisymm x y in let e : cmp x y ≡ ordering_reverse Greater = t ∙ ap ordering_reverse k in let no : ⊥ = cc in no

  pub least_of : (xs : List X) (x : X) → In xs x → Least cmp xs
  least_of [] x i = absurd i
  least_of (y ∷ []) x i = record { element = y; listed = inl refl; least = λ z j. elim j [ inl e ↦ reflexive y z e | inr k ↦ absurd k ] }
  least_of (y ∷ z ∷ zs) x i = go (least_of (z ∷ zs) z (inl refl))
    where
      go : Least cmp (z ∷ zs) → Least cmp (y ∷ z ∷ zs)
      go r = elim (earlier y r.element) [
        | inl later ↦ record {
          element = r.element;
          listed = inr r.listed;
          least = λ v j. elim j [ inl e ↦ subst (λ u. cmp r.element u ≢ Greater) e (later_turned y r.element later) | inr k ↦ r.least v k ];
        }
        | inr first ↦ record {
          element = y;
          listed = inl refl;
          least = λ v j. elim j [ inl e ↦ reflexive y v e | inr k ↦ not_after y r.element v first (r.least v k) ];
        }
      ]

-- Roads that are finite and can be tested: the arcs and the wires that count can be listed, a tree is closed
-- along links, arcs are ordered, and each arc that may be taken weighs something.
pub record IsFinite {A : Type 0} (roads : Roads A) (weight : ℕ → ℕ) (InTree : ℕ → Type 0) (tree wires : List ℕ) (arcs : List A) : Type 0 where
  pub may : (a : A) → Decided (roads.MayTake a)
  pub arcs_listed : (a : A) → roads.IsArc a ↔ In arcs a
  pub may_is_arc : (a : A) → roads.MayTake a → roads.IsArc a
  pub linked : (w x : ℕ) → Decided (roads.Linked w x)
  pub tree_listed : (w : ℕ) → InTree w ↔ In tree w
  pub tree_in : (w : ℕ) → InTree w → In wires w
  pub links_in : (w x : ℕ) → In wires w → roads.Linked w x → In wires x
  pub sinks_in : (a : A) → roads.MayTake a → In wires (roads.sink a)
  pub closed : (w x : ℕ) → InTree w → roads.Linked w x → InTree x
  pub heavy : (a : A) → roads.MayTake a → 1 ≤ weight (roads.sink a)
  pub total : IsTotalOrder roads.cmp

abbrev link : ℕ → ℕ → Link
link w x = record { source = w; sink = x }

module _ {A : Type 0} (roads : Roads A) (weight : ℕ → ℕ) (InTree : ℕ → Type 0) (tree wires : List ℕ) (arcs : List A) (fin : IsFinite roads weight InTree tree wires arcs) where
  -- a link between wires that count, which arcs and links make
  IsLinked : Link → Type 0
  IsLinked l = roads.Linked l.source l.sink

  linked_pairs : (ls : List Link) × ((l : Link) → In ls l ↔ (In (flat_map (λ w. map (link w) wires) wires) l × IsLinked l))
  unfolding IsLinked
  linked_pairs = chosen IsLinked (λ l. fin.linked l.source l.sink) (flat_map (λ w. map (link w) wires) wires)

  in_pairs : (w x : ℕ) → In wires w → In wires x → In (flat_map (λ u. map (link u) wires) wires) (link w x)
  in_pairs w x i j = in_flat_map (λ u. map (link u) wires) wires w (link w x) i (in_map (link w) wires x j)

  taken : (bs : List A) × ((a : A) → In bs a ↔ (In arcs a × roads.MayTake a))
  taken = chosen roads.MayTake fin.may arcs

  abbrev arc_link : A → Link
  arc_link a = link (roads.source a) (roads.sink a)

  steps : List Link
  steps = linked_pairs.0 ++ map arc_link taken.0

  Step : ℕ → ℕ → Type 0
  Step w x = In steps (link w x)

  -- a step is a link or an arc that may be taken
  step_is : (w x : ℕ) → In steps (link w x) → roads.Linked w x ⊎ ((a : A) × (roads.MayTake a × ((roads.source a ≡ w) × (roads.sink a ≡ x))))
  unfolding steps IsLinked
  step_is w x s = elim (in_either linked_pairs.0 (map arc_link taken.0) (link w x) s) [
    | inl i ↦ inl ((linked_pairs.1 (link w x)).0 i).1
    | inr j ↦ (let m = of_map arc_link taken.0 (link w x) j in inr (m.0, (((taken.1 m.0).0 m.1.0).1, (ap (λ l. l.source) m.1.1, ap (λ l. l.sink) m.1.1))))
  ]

  link_steps : (w x : ℕ) → In wires w → roads.Linked w x → In steps (link w x)
  unfolding steps IsLinked
  link_steps w x i l = in_left linked_pairs.0 (map arc_link taken.0) (link w x) ((linked_pairs.1 (link w x)).1 (in_pairs w x i (fin.links_in w x i l), l))

  arc_steps : (a : A) → roads.MayTake a → In steps (arc_link a)
  unfolding steps
  arc_steps a m = in_right linked_pairs.0 (map arc_link taken.0) (arc_link a) (in_map arc_link taken.0 a ((taken.1 a).1 ((fin.arcs_listed a).0 (fin.may_is_arc a m), m)))

  -- the wires reached from the tree
  pub reached : List ℕ
  reached = flat_map (below steps) tree

  stays_in : {t w : ℕ} → In wires t → Reaches Step t w → In wires w
  unfolding Step
  stays_in i here = i
  stays_in i (onto {b} {c} q s) = elim (step_is b c s) [
    | inl l ↦ fin.links_in b c (stays_in i q) l
    | inr r ↦ subst (In wires) r.1.1.1 (fin.sinks_in r.0 r.1.0)
  ]

  reached_from : (w : ℕ) → In reached w → (t : ℕ) × (In tree t × Reaches Step t w)
  unfolding reached Step
  reached_from w i = let r = of_flat_map (below steps) tree w i in (r.0, (r.1.0, below_sound steps r.0 w r.1.1))

  reached_to : (t w : ℕ) → In tree t → Reaches Step t w → In reached w
  unfolding reached Step
  reached_to t w i q = in_flat_map (below steps) tree t w i (below_complete steps q)

  -- a path leads to each reached wire
  path_along : {t w : ℕ} → InTree t → Reaches Step t w → (path : List A) × IsPath roads InTree path w
  unfolding Step
  path_along i here = ([], i)
  path_along i (onto {b} {c} q s) = (let r = path_along i q in elim (step_is b c s) [
    | inl l ↦ (r.0, path_link roads InTree fin.closed r.0 b c r.1 l)
    | inr k ↦ (r.0 ++ k.0 ∷ [], subst (IsPath roads InTree (r.0 ++ k.0 ∷ [])) k.1.1.1 (path_arc roads InTree r.0 k.0 (subst (IsPath roads InTree r.0) (sym k.1.1.0) r.1) k.1.0))
  ])

  pub path_to : (w : ℕ) → In reached w → (path : List A) × IsPath roads InTree path w
  path_to w i = let r = reached_from w i in path_along ((fin.tree_listed r.0).1 r.1.0) r.1.1

  reached_closed : IsClosed roads (In reached)
  unfolding Step
  reached_closed = record {
    links = λ w x i l. (let r = reached_from w i in
        reached_to r.0 x r.1.0 (onto r.1.1 (link_steps w x (stays_in (fin.tree_in r.0 ((fin.tree_listed r.0).1 r.1.0)) r.1.1) l)));
    arcs = λ a m i. (let r = reached_from (roads.source a) i in reached_to r.0 (roads.sink a) r.1.0 (onto r.1.1 (arc_steps a m)));
  }

  tree_reached : (w : ℕ) → InTree w → In reached w
  tree_reached w i = reached_to w w ((fin.tree_listed w).0 i) here

  -- and each wire that a path leads to is reached
  pub to_path : (path : List A) (w : ℕ) → IsPath roads InTree path w → In reached w
  to_path path w p = path_stays roads (In reached) reached_closed InTree tree_reached path w p

  -- the rim of the reached wires
  in_rim : (w : ℕ) → Decided (IsInRim roads reached w)
  in_rim w = decided_by
      (λ h. record { outside = h.0; arc = h.1.0; is_arc = (fin.arcs_listed h.1.0).1 h.1.1.0; from = h.1.1.1.0; to = h.1.1.1.1 })
      (λ h. (h.outside, (h.arc, ((fin.arcs_listed h.arc).0 h.is_arc, (h.from, h.to)))))
      (both (never (is_in same_number reached w)) (some_arc arcs))
    where
      some_arc : (bs : List A) → Decided ((a : A) × (In bs a × (In reached (roads.source a) × (roads.sink a ≡ w))))
      some_arc [] = inr (λ h. h.1.0)
      some_arc (a ∷ bs) = elim (both (is_in same_number reached (roads.source a)) (same_number (roads.sink a) w)) [
        | inl h ↦ inl (a, (inl refl, h))
        | inr n ↦ elim (some_arc bs) [
          | inl h ↦ inl (h.0, (inr h.1.0, h.1.1))
          | inr m ↦ inr (λ h. elim h.1.0 [ inl e ↦ n (subst (λ b. In reached (roads.source b) × (roads.sink b ≡ w)) (sym e) h.1.1) | inr j ↦ m (h.0, (j, h.1.1)) ])
        ]
      ]

  rim : (ws : List ℕ) × ((w : ℕ) → In ws w ↔ (In (map roads.sink arcs) w × IsInRim roads reached w))
  rim = chosen (IsInRim roads reached) in_rim (map roads.sink arcs)

  rim_listed : (w : ℕ) → IsInRim roads reached w → In rim.0 w
  rim_listed w h = (rim.1 w).1 (subst (In (map roads.sink arcs)) h.to (in_map roads.sink arcs h.arc ((fin.arcs_listed h.arc).0 h.is_arc)), h)

  rim_moves : (xs ys : List ℕ) → ((w : ℕ) → In xs w ↔ In ys w) → (w : ℕ) → IsInRim roads xs w → IsInRim roads ys w
  rim_moves xs ys same w h = record { outside = λ i. h.outside ((same w).1 i); arc = h.arc; is_arc = h.is_arc; from = (same (roads.source h.arc)).0 h.from; to = h.to }

  pub blocked : (pin : ℕ) → (In reached pin → ⊥) → (inside : List ℕ) × ((edge : List ℕ) × IsBlockedBy roads InTree inside edge pin)
  blocked pin out =
      let inside : Ranked reached = ranked reached in
      let edge : Ranked rim.0 = ranked rim.0 in (
        inside.list,
        (
          edge.list,
          record {
            least = record {
              cut = record {
                tree = λ w i. (inside.members w).1 (tree_reached w i);
                pin_out = λ i. out ((inside.members pin).0 i);
                links = λ w x i l. (inside.members x).1 (reached_closed.links w x ((inside.members w).0 i) l);
                arcs = λ a m i. (inside.members (roads.sink a)).1 (reached_closed.arcs a m ((inside.members (roads.source a)).0 i));
              };
              least = λ other cut w i. (let p = path_to w ((inside.members w).0 i) in
                  path_stays roads (In other) (record { links = cut.links; arcs = cut.arcs }) InTree cut.tree p.0 w p.1);
            };
            inside_in_order = increases inside.list inside.rising;
            rim_members = λ w. (
              (λ i. rim_moves reached inside.list (λ x. ((inside.members x).1, (inside.members x).0)) w ((rim.1 w).0 ((edge.members w).0 i)).1),
              (λ h. (edge.members w).1 (rim_listed w (rim_moves inside.list reached inside.members w h))),
            );
            rim_in_order = increases edge.list edge.rising;
          },
        ),
      )

  -- whether arcs lead on can be tested
  is_linked_to : (w x : ℕ) → In wires w → Decided (IsBelow roads w x)
  unfolding IsLinked
  is_linked_to w x i = decided_by
      (λ h. reaches_by (λ u v s. ((linked_pairs.1 (link u v)).0 s).1) (below_sound linked_pairs.0 w x h))
      (λ h. below_complete linked_pairs.0 (within i h))
      (is_in same_number (below linked_pairs.0 w) x)
    where
      within_wires : {u v : ℕ} → In wires u → IsBelow roads u v → In wires v
      within_wires j here = j
      within_wires j (onto {b} {c} q l) = fin.links_in b c (within_wires j q) l

      within : {u v : ℕ} → In wires u → IsBelow roads u v → Reaches (λ a b. In linked_pairs.0 (link a b)) u v
      within j here = here
      within j (onto {b} {c} q l) = (let k = within_wires j q in onto (within j q) ((linked_pairs.1 (link b c)).1 (in_pairs b c k (fin.links_in b c k l), l)))

  leads : (w : ℕ) (path : List A) (pin : ℕ) → In wires w → Decided (LeadsOn roads w path pin)
  leads w [] pin i = is_linked_to w pin i
  leads w (a ∷ rest) pin i = elim (fin.may a) [
    | inr n ↦ inr (λ h. n h.1)
    | inl m ↦ decided_by (λ h. (h.0, m, h.1)) (λ h. (h.0, h.2)) (both (is_linked_to w (roads.source a) i) (leads (roads.sink a) rest pin (fin.sinks_in a m)))
  ]

  is_tree : (w : ℕ) → Decided (InTree w)
  is_tree w = decided_by (fin.tree_listed w).1 (fin.tree_listed w).0 (is_in same_number tree w)

  is_path : (pin : ℕ) (path : List A) → Decided (IsPath roads InTree path pin)
  is_path pin [] = is_tree pin
  is_path pin (a ∷ rest) = elim (fin.may a) [
    | inr n ↦ inr (λ h. n h.1)
    | inl m ↦ decided_by (λ h. (h.0, m, h.1)) (λ h. (h.0, h.2)) (both (is_tree (roads.source a)) (leads (roads.sink a) rest pin (fin.sinks_in a m)))
  ]

  -- a path is no longer than heavy
  taken_short : (path : List A) → ((a : A) → In path a → roads.MayTake a) → length path ≤ weight_of roads weight path
  taken_short [] t = omega arith
  taken_short (a ∷ rest) t = let h = fin.heavy a (t a (inl refl)) in let k = taken_short rest (λ b i. t b (inr i)) in omega arith

  -- the paths up to a weight, and maybe others
  abbrev Candidates : ℕ → ℕ → List (List A) → Type 0
  Candidates pin n ps = (path : List A) → In ps path ↔ (In (lists_up_to arcs n) path × IsPath roads InTree path pin)

  candidate : (pin n : ℕ) (ps : List (List A)) → Candidates pin n ps → (path : List A) → IsPath roads InTree path pin → weight_of roads weight path ≤ n → In ps path
  candidate pin n ps h path p l =
      let t = path_taken roads InTree path pin p in
      let s = taken_short path t in
      (h path).1 (in_lists arcs n path (λ a i. (fin.arcs_listed a).0 (fin.may_is_arc a (t a i))) (omega arith), p)

  -- the lighter first, and of those of one weight the earlier
  abbrev path_cmp : List A → List A → Ordering
  path_cmp = then_cmp (on (λ p. weight_of roads weight p) nat_cmp) (slice_cmp roads.cmp)

  path_total : IsTotalOrder path_cmp
  path_total = then_total (on_total (λ p. weight_of roads weight p) nat_cmp_total) (lists_total fin.total)

  then_first : (a b : Ordering) → ordering_then a b ≢ Greater → a ≢ Greater
  then_first Less b h = λ e. let no : ⊥ = cc in no
  then_first Equal b h = λ e. let no : ⊥ = cc in no
  then_first Greater b h = absurd (h refl)

  then_second : (a b : Ordering) → a ≡ Equal → ordering_then a b ≢ Greater → b ≢ Greater
  then_second Less b e h = absurd (let no : ⊥ = cc in no)
  then_second Equal b e h = h
  then_second Greater b e h = absurd (h refl)

  number_order : (m n : ℕ) → nat_cmp m n ≢ Greater → m ≤ n
  number_order m n h = elim (cases_lt n m) as (λ _. m ≤ n) [
    | inl l ↦ absurd (h (sym (nat_cmp_is m n Greater l)))
    | inr l ↦ l
  ]

  not_heavier : (p q : List A) → path_cmp p q ≢ Greater → weight_of roads weight p ≤ weight_of roads weight q
  not_heavier p q h = number_order (weight_of roads weight p) (weight_of roads weight q) (then_first (nat_cmp (weight_of roads weight p) (weight_of roads weight q)) (slice_cmp roads.cmp p q) h)

  not_later : (p q : List A) → weight_of roads weight q ≡ weight_of roads weight p → path_cmp p q ≢ Greater → slice_cmp roads.cmp p q ≢ Greater
  not_later p q e h = then_second (nat_cmp (weight_of roads weight p) (weight_of roads weight q)) (slice_cmp roads.cmp p q) (sym (nat_cmp_is (weight_of roads weight p) (weight_of roads weight q) Equal (sym e))) h

  pub first_path : (pin : ℕ) (path : List A) → IsPath roads InTree path pin → (best : List A) × IsThePath roads weight InTree best pin
  first_path pin path p = go (chosen (λ q. IsPath roads InTree q pin) (is_path pin) (lists_up_to arcs (weight_of roads weight path)))
    where
      go : (ps : List (List A)) × Candidates pin (weight_of roads weight path) ps → (best : List A) × IsThePath roads weight InTree best pin
      go c = pick (least_of path_cmp path_total c.0 path (candidate pin (weight_of roads weight path) c.0 c.1 path p (omega arith)))
        where
          pick : Least path_cmp c.0 → (best : List A) × IsThePath roads weight InTree best pin
          pick b = (
            b.element,
            record {
              is_path = ((c.1 b.element).0 b.listed).1;
              least = λ q pq. elim (cases_lt (weight_of roads weight path) (weight_of roads weight q)) as (λ _. weight_of roads weight b.element ≤ weight_of roads weight q) [
                | inl l ↦ (let k = not_heavier b.element path (b.least path (candidate pin (weight_of roads weight path) c.0 c.1 path p (omega arith))) in omega arith)
                | inr l ↦ not_heavier b.element q (b.least q (candidate pin (weight_of roads weight path) c.0 c.1 q pq l))
              ];
              first = λ q pq e. (let k = not_heavier b.element path (b.least path (candidate pin (weight_of roads weight path) c.0 c.1 path p (omega arith))) in
                  not_later b.element q e (b.least q (candidate pin (weight_of roads weight path) c.0 c.1 q pq (omega arith))));
            },
          )

  -- the path or the least cut
  pub path_or_cut : (pin : ℕ) → ((best : List A) × IsThePath roads weight InTree best pin) ⊎ ((inside : List ℕ) × ((edge : List ℕ) × IsBlockedBy roads InTree inside edge pin))
  path_or_cut pin = elim (is_in same_number reached pin) [
    | inl i ↦ (let p = path_to pin i in inl (first_path pin p.0 p.1))
    | inr n ↦ inr (blocked pin n)
  ]

  -- the least cut is what is reached
  pub least_is_reached : (inside : List ℕ) (pin : ℕ) → IsLeastCut roads InTree inside pin → (w : ℕ) → In inside w ↔ ((path : List A) × IsPath roads InTree path w)
  least_is_reached inside pin c w = (
    (λ i. path_to w (c.least reached (record { tree = tree_reached; pin_out = no_pin; links = reached_closed.links; arcs = reached_closed.arcs }) w i)),
    (λ p. path_stays roads (In inside) (record { links = c.cut.links; arcs = c.cut.arcs }) InTree c.cut.tree p.0 w p.1),
  )
    where
      no_pin : In reached pin → ⊥
      no_pin i = let p = path_to pin i in c.cut.pin_out (path_stays roads (In inside) (record { links = c.cut.links; arcs = c.cut.arcs }) InTree c.cut.tree p.0 pin p.1)

  pub reached_is_least : (inside : List ℕ) (pin : ℕ) → ((w : ℕ) → In inside w ↔ ((path : List A) × IsPath roads InTree path w)) → (In inside pin → ⊥) → IsLeastCut roads InTree inside pin
  reached_is_least inside pin same out = record {
    cut = record {
      tree = λ w i. (same w).1 ([], i);
      pin_out = out;
      links = λ w x i l. (let p = (same w).0 i in (same x).1 (p.0, path_link roads InTree fin.closed p.0 w x p.1 l));
      arcs = λ a m i. (let p = (same (roads.source a)).0 i in (same (roads.sink a)).1 (p.0 ++ a ∷ [], path_arc roads InTree p.0 a p.1 m));
    };
    least = λ other c w i. (let p = (same w).0 i in path_stays roads (In other) (record { links = c.links; arcs = c.arcs }) InTree c.tree p.0 w p.1);
  }

-- a least cut with its rim is determined
module _ {A : Type 0} (roads : Roads A) (InTree : ℕ → Type 0) where
  pub same_cut : (s t : List ℕ) (pin : ℕ) → IsLeastCut roads InTree s pin → IsLeastCut roads InTree t pin → (w : ℕ) → In s w ↔ In t w
  same_cut s t pin p q w = (p.least t q.cut w, q.least s p.cut w)

  pub one_cut : (s edge t brim : List ℕ) (pin : ℕ) → IsBlockedBy roads InTree s edge pin → IsBlockedBy roads InTree t brim pin → (s ≡ t) × (edge ≡ brim)
  one_cut s edge t brim pin p q =
      let same = same_cut s t pin p.least q.least in (
        one_list s t p.inside_in_order q.inside_in_order same,
        one_list edge brim p.rim_in_order q.rim_in_order (λ w. (
          (λ i. (q.rim_members w).1 (moved s t same w ((p.rim_members w).0 i))),
          (λ i. (p.rim_members w).1 (moved t s (λ x. ((same x).1, (same x).0)) w ((q.rim_members w).0 i))),
        )),
      )
    where
      moved : (xs ys : List ℕ) → ((w : ℕ) → In xs w ↔ In ys w) → (w : ℕ) → IsInRim roads xs w → IsInRim roads ys w
      moved xs ys same w h = record { outside = λ i. h.outside ((same w).1 i); arc = h.arc; is_arc = h.is_arc; from = (same (roads.source h.arc)).0 h.from; to = h.to }
