-- What stays while wires are taken in and met.
use Rattle.std.proofs.Common.{◌≡◌, ℕ, ◌+◌, ◌≤◌, ◌<◌, Bool, true, false, List, [], ◌∷◌, ◌++◌, length, set, zero, suc, sym, subst, ap, ◌∙◌, refl, arith, ◌⊎◌, inl, inr, get_or-set_same, get_or-set_other, cond, replicate}
use Rattle.std.specs.List.{count_by}
use Rattle.std.proofs.lemmas.List.{length-set, length-replicate, length-append}
use Rattle.std.proofs.lemmas.List.Sums.{sum_by-set, count_by-le-length}
use Rattle.std.proofs.lemmas.Bool.{cases_eq, false≢true}
use Rattle.words.specs.Members.{In}
use Rattle.paths.specs.Wiring.{IsArcOf, IsTree, roads_of}
use Rattle.path_laws.proofs.Leading.{path_link, path_arc}
use Rattle.net_links.specs.Nets.{Network, NetRules, rules_of}
use Rattle.route_cut.specs.Checked.{IsEntered, IsKept, StaysIn}
use Rattle.net_search.specs.declared.reach.Mark.{Mark}
use Rattle.net_search.specs.declared.reach.Mark.TheVariants.{Far, Shut, Open, Inside}
use Rattle.net_search.specs.Marks.{Knows, IsMet, IsOutside, asked_mark, is_inside, mark_of}
use Rattle.net_search.specs.Gathering.{Gathered, Grows, IsReached}
use Rattle.net_search.proofs.Growing.{in_more, in_last, grows_self, grows_more, grows_in}

-- marks
pub not_inside : (mark : Mark) → (mark ≡ Inside → ⊥) → is_inside mark ≡ false
not_inside Far h = refl
not_inside Shut h = refl
not_inside Open h = refl
not_inside Inside h = absurd (h refl)

abbrev is_far : Mark → Bool
is_far Far = true
is_far Shut = false
is_far Open = false
is_far Inside = false

asked_outside : (b : Bool) → is_inside (asked_mark b) ≡ false
asked_outside true = refl
asked_outside false = refl

far_marks : (wires w : ℕ) → mark_of (replicate wires Far) w ≡ Far
far_marks zero w = refl
far_marks (suc wires) zero = refl
far_marks (suc wires) (suc w) = far_marks wires w

none_inside : (wires : ℕ) → count_by is_inside (replicate wires Far) ≡ 0
none_inside zero = refl
none_inside (suc wires) = let h = none_inside wires in omega arith

-- how many are inside, with one mark written
count_set : (marks : List Mark) (w : ℕ) (mark : Mark) → w < length marks → is_inside (mark_of marks w) ≡ false → count_by is_inside (set marks w mark) ≡ count_by is_inside marks + cond {A = ℕ} (is_inside mark) 1 0
count_set marks w mark h f =
    let s = sum_by-set (λ (m : Mark). cond {A = ℕ} (is_inside m) 1 0) marks w mark Far h in
    let z : cond {A = ℕ} (is_inside (mark_of marks w)) 1 0 ≡ 0 = ap (λ (b : Bool). cond {A = ℕ} b 1 0) f in
    omega arith

module _ (g : Network) (n : NetRules) where
  -- paths that go one step further
  pub reached_root : (w : ℕ) → In n.tree w → IsReached g n w
  reached_root w i = record { path = []; leads = i }

  pub reached_link : (w x : ℕ) → IsTree g.wiring (rules_of g n) n.tree → IsReached g n w → In (n.next w) x → IsReached g n x
  reached_link w x t p h = record { path = p.path; leads = path_link (roads_of g.wiring (rules_of g n)) (In n.tree) t.closed p.path w x p.leads h }

  pub reached_arc : (a : ℕ) → IsArcOf g.wiring a → (rules_of g n).usable a ≡ true → IsReached g n (g.wiring.source a) → IsReached g n (g.wiring.sink a)
  reached_arc a arc u p = record { path = p.path ++ a ∷ []; leads = path_arc (roads_of g.wiring (rules_of g n)) (In n.tree) p.path a p.leads (arc, u) }

  -- what is known stays known
  knows_grows : (inside now edge rest : List ℕ) (w : ℕ) (mark : Mark) → Grows inside now → Grows edge rest → Knows n inside edge w mark → Knows n now rest w mark
  knows_grows inside now edge rest w Far p q h = tt
  knows_grows inside now edge rest w Shut p q h = (grows_in edge rest w q h.0, h.1)
  knows_grows inside now edge rest w Open p q h = (grows_in edge rest w q h.0, h.1)
  knows_grows inside now edge rest w Inside p q h = grows_in inside now w p h

  entered_grows : (inside now : List ℕ) (w : ℕ) → Grows inside now → IsEntered g.wiring inside w → IsEntered g.wiring now w
  entered_grows inside now w p h = record { arc = h.arc; is_arc = h.is_arc; from = grows_in inside now (g.wiring.source h.arc) p h.from; to = h.to }

  pub stays_grows : (inside now edge rest : List ℕ) (a : ℕ) → Grows inside now → Grows edge rest → StaysIn g.wiring (rules_of g n) inside edge a → StaysIn g.wiring (rules_of g n) now rest a
  stays_grows inside now edge rest a p q h = elim h [
    | inl i ↦ inl (grows_in inside now (g.wiring.sink a) p i)
    | inr i ↦ inr (i.0, grows_in edge rest (g.wiring.sink a) q i.1)
  ]

  pub kept_grows : (inside now edge rest : List ℕ) (w : ℕ) → Grows inside now → Grows edge rest → IsKept g.wiring (rules_of g n) inside edge w → IsKept g.wiring (rules_of g n) now rest w
  kept_grows inside now edge rest w p q h = record {
    links = λ x l. grows_in inside now x p (h.links x l);
    arcs = λ a l. stays_grows inside now edge rest a p q (h.arcs a l);
  }

  pub few_inside : (marks : List Mark) (inside edge : List ℕ) → Gathered g n marks inside edge → length inside ≤ g.wiring.wires
  few_inside marks inside edge h = let a = h.count in let b = h.len in let c = count_by-le-length is_inside marks in omega arith

  -- a wire is taken in
  taken_at : (marks : List Mark) (inside edge : List ℕ) (w : ℕ) → Gathered g n marks inside edge → w < g.wiring.wires → IsReached g n w → (mark_of marks w ≡ Inside → ⊥) → Gathered g n (set marks w Inside) (inside ++ w ∷ []) edge
  taken_at marks inside edge w h ww r out =
      let l = h.len in
      let len = length-set marks w Inside in
      let n1 = length-append inside (w ∷ []) in
      let c = count_set marks w Inside (omega arith) (not_inside (mark_of marks w) out) in
      let c0 = h.count in
      let p = grows_more inside (inside ++ w ∷ []) w refl in
      let here : mark_of (set marks w Inside) w ≡ Inside = get_or-set_same marks w Inside Far (omega arith) in
      record {
        len = omega arith;
        wires = λ x i. elim (in_more inside w x i) as (λ _. x < g.wiring.wires) [ inl j ↦ h.wires x j | inr e ↦ (let f : x ≡ w = e in omega arith) ];
        edge_wires = h.edge_wires;
        count = omega arith;
        marked = λ x i. elim (cases_eq x w) as (λ _. mark_of (set marks w Inside) x ≡ Inside) [
          | inl e ↦ subst (λ z. mark_of (set marks w Inside) z ≡ Inside) (sym e) here
          | inr d ↦ get_or-set_other marks w x Inside Far d ∙ (elim (in_more inside w x i) as (λ _. mark_of marks x ≡ Inside) [ inl j ↦ h.marked x j | inr e ↦ absurd (d e) ])
        ];
        each = λ x xw. elim (cases_eq x w) as (λ _. Knows n (inside ++ w ∷ []) edge x (mark_of (set marks w Inside) x)) [
          | inl e ↦ subst (λ z. Knows n (inside ++ w ∷ []) edge z (mark_of (set marks w Inside) z)) (sym e) (subst (Knows n (inside ++ w ∷ []) edge w) (sym here) (in_last inside w))
          | inr d ↦ subst (Knows n (inside ++ w ∷ []) edge x) (sym (get_or-set_other marks w x Inside Far d)) (knows_grows inside (inside ++ w ∷ []) edge edge x (mark_of marks x) p (grows_self edge) (h.each x xw))
        ];
        entered = λ x i. entered_grows inside (inside ++ w ∷ []) x p (h.entered x i);
        paths = λ x i. elim (in_more inside w x i) as (λ _. IsReached g n x) [ inl j ↦ h.paths x j | inr e ↦ subst (IsReached g n) (sym e) r ];
      }

  pub taken_in : (marks new : List Mark) (inside now edge rest : List ℕ) (w : ℕ) → Gathered g n marks inside edge → w < g.wiring.wires → IsReached g n w → (mark_of marks w ≡ Inside → ⊥) → new ≡ set marks w Inside → now ≡ inside ++ w ∷ [] → rest ≡ edge → Gathered g n new now rest
  taken_in marks new inside now edge rest w h ww r out em ei ee =
      subst (λ m. Gathered g n m now rest) (sym em) (subst (λ i. Gathered g n (set marks w Inside) i rest) (sym ei) (subst (Gathered g n (set marks w Inside) (inside ++ w ∷ [])) (sym ee) (taken_at marks inside edge w h ww r out)))

  -- a wire is met
  knows_asked : (inside edge : List ℕ) (w : ℕ) (b : Bool) → n.enterable w ≡ b → In edge w → Knows n inside edge w (asked_mark b)
  knows_asked inside edge w true e i = (i, e)
  knows_asked inside edge w false e i = (i, e)

  met_at : (marks : List Mark) (inside edge : List ℕ) (a : ℕ) → Gathered g n marks inside edge → g.wiring.sink a < g.wiring.wires → IsArcOf g.wiring a → In inside (g.wiring.source a) → mark_of marks (g.wiring.sink a) ≡ Far
      → Gathered g n (set marks (g.wiring.sink a) (asked_mark (n.enterable (g.wiring.sink a)))) inside (edge ++ g.wiring.sink a ∷ [])
  met_at marks inside edge a h ww arc from far =
      let w = g.wiring.sink a in
      let mark = asked_mark (n.enterable (g.wiring.sink a)) in
      let l = h.len in
      let len = length-set marks (g.wiring.sink a) (asked_mark (n.enterable (g.wiring.sink a))) in
      let c = count_set marks (g.wiring.sink a) (asked_mark (n.enterable (g.wiring.sink a))) (omega arith) (ap is_inside far) in
      let z : cond {A = ℕ} (is_inside (asked_mark (n.enterable (g.wiring.sink a)))) 1 0 ≡ 0 = ap (λ (b : Bool). cond {A = ℕ} b 1 0) (asked_outside (n.enterable (g.wiring.sink a))) in
      let c0 = h.count in
      let q = grows_more edge (edge ++ g.wiring.sink a ∷ []) (g.wiring.sink a) refl in
      let here : mark_of (set marks w mark) w ≡ mark = get_or-set_same marks w mark Far (omega arith) in
      record {
        len = omega arith;
        wires = h.wires;
        edge_wires = λ x i. elim (in_more edge w x i) as (λ _. x < g.wiring.wires) [ inl j ↦ h.edge_wires x j | inr e ↦ (let f : x ≡ g.wiring.sink a = e in omega arith) ];
        count = omega arith;
        marked = λ x i. get_or-set_other marks w x mark Far (λ e. not_far (sym (h.marked x i) ∙ (ap (mark_of marks) e ∙ far))) ∙ h.marked x i;
        each = λ x xw. elim (cases_eq x w) as (λ _. Knows n inside (edge ++ w ∷ []) x (mark_of (set marks w mark) x)) [
          | inl e ↦ subst (λ y. Knows n inside (edge ++ w ∷ []) y (mark_of (set marks w mark) y)) (sym e) (subst (Knows n inside (edge ++ w ∷ []) w) (sym here) (knows_asked inside (edge ++ w ∷ []) w (n.enterable w) refl (in_last edge w)))
          | inr d ↦ subst (Knows n inside (edge ++ w ∷ []) x) (sym (get_or-set_other marks w x mark Far d)) (knows_grows inside inside edge (edge ++ w ∷ []) x (mark_of marks x) (grows_self inside) q (h.each x xw))
        ];
        entered = λ x i. elim (in_more edge w x i) as (λ _. IsEntered g.wiring inside x) [
          | inl j ↦ h.entered x j
          | inr e ↦ record { arc = a; is_arc = arc; from = from; to = sym e }
        ];
        paths = h.paths;
      }
    where
      not_far : Inside ≡ Far → ⊥
      not_far e = false≢true (sym (ap is_inside e))

  pub met : (marks new : List Mark) (inside now edge rest : List ℕ) (a w : ℕ) (mark : Mark) → Gathered g n marks inside edge → w ≡ g.wiring.sink a → g.wiring.sink a < g.wiring.wires → IsArcOf g.wiring a → In inside (g.wiring.source a) → mark_of marks w ≡ Far
      → mark ≡ asked_mark (n.enterable w) → new ≡ set marks w mark → now ≡ inside → rest ≡ edge ++ w ∷ [] → Gathered g n new now rest
  met marks new inside now edge rest a w mark h ew ww arc from far ea em ei ee =
      let k = met_at marks inside edge a h ww arc from (ap (mark_of marks) (sym ew) ∙ far) in
      let es : new ≡ set marks (g.wiring.sink a) (asked_mark (n.enterable (g.wiring.sink a))) = em ∙ (ap (λ m. set marks w m) ea ∙ ap (λ z. set marks z (asked_mark (n.enterable z))) ew) in
      let er : rest ≡ edge ++ g.wiring.sink a ∷ [] = ee ∙ ap (λ z. edge ++ z ∷ []) ew in
      subst (λ m. Gathered g n m now rest) (sym es) (subst (λ i. Gathered g n (set marks (g.wiring.sink a) (asked_mark (n.enterable (g.wiring.sink a)))) i rest) (sym ei) (subst (Gathered g n (set marks (g.wiring.sink a) (asked_mark (n.enterable (g.wiring.sink a)))) inside) (sym er) k))

  pub asked_is_met : (marks new : List Mark) (w sink : ℕ) (mark : Mark) (b : Bool) → w ≡ sink → w < length marks → mark ≡ asked_mark b → new ≡ set marks w mark → IsMet new sink mark
  asked_is_met marks new w sink mark b ew h e en = subst (λ z. IsMet new z mark) ew (record {
    is = sym (ap (λ ms. mark_of ms w) en ∙ get_or-set_same marks w mark Far h);
    near = λ f. asked_near b (sym e ∙ f);
  })
    where
      asked_near : (b : Bool) → asked_mark b ≡ Far → ⊥
      asked_near true e = false≢true (ap is_far e)
      asked_near false e = false≢true (ap is_far e)

  -- an arc whose sink was met and isn't taken in can't be taken
  pub stays_by : (marks : List Mark) (inside edge : List ℕ) (a : ℕ) (mark : Mark) → Gathered g n marks inside edge → g.wiring.sink a < g.wiring.wires → IsMet marks (g.wiring.sink a) mark → (mark ≡ Open → n.takes a ≡ false) → StaysIn g.wiring (rules_of g n) inside edge a
  stays_by marks inside edge a mark h ww m shut = by mark refl (subst (Knows n inside edge (g.wiring.sink a)) (sym m.is) (h.each (g.wiring.sink a) ww))
    where
      by : (k : Mark) → mark ≡ k → Knows n inside edge (g.wiring.sink a) k → StaysIn g.wiring (rules_of g n) inside edge a
      by Far e i = absurd (m.near e)
      by Shut e i = inr (ap (λ (b : Bool). cond b (n.takes a) false) i.1, i.0)
      by Open e i = inr (ap (λ (b : Bool). cond b (n.takes a) false) i.1 ∙ shut e, i.0)
      by Inside e i = inl i

  pub open_enters : (marks : List Mark) (inside edge : List ℕ) (a : ℕ) (mark : Mark) → Gathered g n marks inside edge → g.wiring.sink a < g.wiring.wires → IsMet marks (g.wiring.sink a) mark → mark ≡ Open → n.takes a ≡ true → (rules_of g n).usable a ≡ true
  open_enters marks inside edge a mark h ww m e t =
      let k : Knows n inside edge (g.wiring.sink a) Open = subst (Knows n inside edge (g.wiring.sink a)) (sym m.is ∙ e) (h.each (g.wiring.sink a) ww) in
      ap (λ (b : Bool). cond b (n.takes a) false) k.1 ∙ t

  -- a wire that isn't listed isn't marked as inside
  pub outside_of : (marks : List Mark) (inside edge : List ℕ) (w : ℕ) → Gathered g n marks inside edge → w < g.wiring.wires → (In inside w → ⊥) → IsOutside marks w
  outside_of marks inside edge w h ww out = not_inside (mark_of marks w) (λ e. out (subst (Knows n inside edge w) e (h.each w ww)))

  pub inside_of : (marks : List Mark) (inside edge : List ℕ) (w : ℕ) → Gathered g n marks inside edge → IsOutside marks w → In inside w → ⊥
  inside_of marks inside edge w h out i = false≢true (sym out ∙ ap is_inside (h.marked w i))

  -- at rest nothing is gathered
  pub nothing : (marks : List Mark) (inside edge : List ℕ) → marks ≡ replicate g.wiring.wires Far → inside ≡ [] → edge ≡ [] → Gathered g n marks inside edge
  nothing marks inside edge em ei ee =
      subst (λ m. Gathered g n m inside edge) (sym em) (subst (λ i. Gathered g n (replicate g.wiring.wires Far) i edge) (sym ei) (subst (Gathered g n (replicate g.wiring.wires Far) []) (sym ee) (record {
        len = length-replicate g.wiring.wires Far;
        wires = λ w i. absurd i;
        edge_wires = λ w i. absurd i;
        count = (let h = none_inside g.wiring.wires in omega arith);
        marked = λ w i. absurd i;
        each = λ w ww. subst (Knows n [] [] w) (sym (far_marks g.wiring.wires w)) tt;
        entered = λ w i. absurd i;
        paths = λ w i. absurd i;
      })))

  -- what is to be cleared
  pub known_mark : (marks : List Mark) (inside edge : List ℕ) (w : ℕ) → Gathered g n marks inside edge → w < g.wiring.wires → (mark_of marks w ≡ Far) ⊎ (In inside w ⊎ In edge w)
  known_mark marks inside edge w h ww = by (mark_of marks w) refl (h.each w ww)
    where
      by : (k : Mark) → mark_of marks w ≡ k → Knows n inside edge w k → (mark_of marks w ≡ Far) ⊎ (In inside w ⊎ In edge w)
      by Far e i = inl e
      by Shut e i = inr (inr i.0)
      by Open e i = inr (inr i.0)
      by Inside e i = inr (inl i)
