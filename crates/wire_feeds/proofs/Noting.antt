-- A wire is noted: it gets a feed and waits, unless it has one.
use Rattle.std.proofs.Common.{◌≡◌, ℕ, ◌+◌, ◌<◌, ◌⊎◌, cond, List, [], ◌∷◌, Option, Some, None, length, get_or, set, refl, sym, ap, subst, ◌∙◌, inl, inr, arith}
use Rattle.std.proofs.lemmas.Bool.{cases_eq}
use Rattle.std.proofs.lemmas.List.{get_or-set_same, get_or-set_other, length-set, length-append}
use Rattle.std.proofs.lemmas.List.Sums.{sum_by-set}
use Rattle.words.specs.Members.{In}
use Rattle.links.proofs.Members.{in_left, in_right, in_either}
use Rattle.wire_feeds.specs.declared.noted.FedWire.{FedWire}
use Rattle.wire_feeds.specs.Walks.{IsFed, IsReached, Waits, Walk, feeds_with, is_open, open_count, waiting_with}

none_some : {x : Option ℕ} {c : ℕ} → x ≡ None → x ≡ Some c → ⊥
none_some {x} {c} n s = let no : ⊥ = cc in no

module _ (feeds : List (Option ℕ)) (v c : ℕ) where
  -- other wires keep their feeds
  pub keeps_feed : (o : Option ℕ) → get_or feeds v None ≡ o → (w d : ℕ) → get_or feeds w None ≡ Some d → get_or (feeds_with o feeds v c) w None ≡ Some d
  keeps_feed (Some e) is w d h = h
  keeps_feed None is w d h = elim (cases_eq w v) as (λ _. get_or (set feeds v (Some c)) w None ≡ Some d) [
    | inl e ↦ absurd (none_some (ap (λ z. get_or feeds z None) e ∙ is) h)
    | inr other ↦ get_or-set_other feeds v w (Some c) None other ∙ h
  ]

  -- the wire has a feed
  pub fed_now : (o : Option ℕ) → get_or feeds v None ≡ o → v < length feeds → IsFed (feeds_with o feeds v c) v
  fed_now (Some e) is below = (e, is)
  fed_now None is below = (c, get_or-set_same feeds v (Some c) None below)

  pub same_length : (o : Option ℕ) → length (feeds_with o feeds v c) ≡ length feeds
  same_length (Some e) = refl
  same_length None = length-set feeds v (Some c)

  -- a wire has the feed that was noted, or it had its feed before
  pub feed_from : (o : Option ℕ) → get_or feeds v None ≡ o → v < length feeds → (w d : ℕ) → get_or (feeds_with o feeds v c) w None ≡ Some d
      → (get_or feeds w None ≡ Some d) ⊎ ((w ≡ v) × (c ≡ d))
  feed_from (Some e) is below w d h = inl h
  feed_from None is below w d h = elim (cases_eq w v) as (λ _. (get_or feeds w None ≡ Some d) ⊎ ((w ≡ v) × (c ≡ d))) [
    | inl e ↦ (let at : get_or (set feeds v (Some c)) v None ≡ Some c = get_or-set_same feeds v (Some c) None below in
        let same : get_or (set feeds v (Some c)) v None ≡ Some d = ap (λ z. get_or (set feeds v (Some c)) z None) (sym e) ∙ h in
        let is_d : c ≡ d = cc in inr (e, is_d))
    | inr other ↦ inl (sym (get_or-set_other feeds v w (Some c) None other) ∙ h)
  ]

  -- what waits goes on waiting, and a wire that got its feed waits
  pub waits_on : (o : Option ℕ) (waiting : List FedWire) (w : ℕ) → Waits waiting w → Waits (waiting_with o waiting v c) w
  waits_on (Some e) waiting w h = h
  waits_on None waiting w h = (h.0, (in_left waiting (record { wire = v; feed = c } ∷ []) h.0 h.1.0, h.1.1))

  pub waits_now : (waiting : List FedWire) → Waits (waiting_with None waiting v c) v
  waits_now waiting = (record { wire = v; feed = c }, (in_right waiting (record { wire = v; feed = c } ∷ []) (record { wire = v; feed = c }) (inl refl), refl))

  -- a wire that waits has the feed that it waits with
  pub holds_on : (o : Option ℕ) (waiting : List FedWire) → get_or feeds v None ≡ o → v < length feeds
      → ((f : FedWire) → In waiting f → get_or feeds f.wire None ≡ Some f.feed)
      → (f : FedWire) → In (waiting_with o waiting v c) f → get_or (feeds_with o feeds v c) f.wire None ≡ Some f.feed
  holds_on (Some e) waiting is below held f i = held f i
  holds_on None waiting is below held f i = elim (in_either waiting (record { wire = v; feed = c } ∷ []) f i) [
    | inl j ↦ keeps_feed None is f.wire f.feed (held f j)
    | inr j ↦ elim j [
      | inl e ↦ subst (λ (g : FedWire). get_or (set feeds v (Some c)) g.wire None ≡ Some g.feed) e (get_or-set_same feeds v (Some c) None below)
      | inr k ↦ absurd k
    ]
  ]

  -- wires without a feed and wires that wait are as many as before, together
  pub same_count : (o : Option ℕ) (waiting : List FedWire) → get_or feeds v None ≡ o → v < length feeds
      → open_count (feeds_with o feeds v c) + length (waiting_with o waiting v c) ≡ open_count feeds + length waiting
  same_count (Some e) waiting is below = refl
  same_count None waiting is below =
      let f : Option ℕ → ℕ = λ x. cond (is_open x) 1 0 in
      let sums = sum_by-set f feeds v (Some c) None below in
      let one : f (get_or feeds v None) ≡ 1 = ap f is in
      let more = length-append waiting (record { wire = v; feed = c } ∷ []) in
      omega (arith, sums, one, more)

  -- a walk goes on
  pub walk_noted : (rows : List (List ℕ)) (outputs : List ℕ) (busy : ℕ) (waiting : List FedWire) → Walk rows outputs busy feeds waiting → IsReached rows outputs c v → v < length feeds
      → (o : Option ℕ) → get_or feeds v None ≡ o → Walk rows outputs busy (feeds_with o feeds v c) (waiting_with o waiting v c)
  walk_noted rows outputs busy waiting walk reached below (Some e) is = walk
  walk_noted rows outputs busy waiting walk reached below None is = record {
    long = same_length None ∙ walk.long;
    reached = λ w d h. elim (feed_from None is below w d h) [
      | inl old ↦ walk.reached w d old
      | inr new ↦ subst (λ x. IsReached rows outputs x w) new.1 (subst (λ x. IsReached rows outputs c x) (sym new.0) reached)
    ];
    spread = λ w d h. elim (feed_from None is below w d h) [
      | inl old ↦ elim (walk.spread w d old) [
        | inl b ↦ inl b
        | inr rest ↦ elim rest [ inl waits ↦ inr (inl (waits_on None waiting w waits)) | inr all ↦ inr (inr (λ x leads. let f = all x leads in (f.0, keeps_feed None is x f.0 f.1))) ]
      ]
      | inr new ↦ inr (inl (subst (λ x. Waits (waiting_with None waiting v c) x) (sym new.0) (waits_now waiting)))
    ];
    held = holds_on None waiting is below walk.held;
    own = λ x i. keeps_feed None is x x (walk.own x i);
  }
