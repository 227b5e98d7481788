-- Shorted wires and their sources.
use Rattle.std.proofs.Common.{◌≡◌, ◌≢◌, ℕ, ◌+◌, ◌<◌, ◌≤◌, ◌↔◌, ◌⊎◌, Bool, true, false, cond, List, [], ◌∷◌, ◌++◌, length, nat_le, take, get_or, refl, sym, ap, subst, ◌∙◌, inl, inr, arith}
use Rattle.std.specs.Ordering.{nat_cmp}
use Rattle.std.specs.Prelude.{if◌then◌else◌}
use Rattle.std.proofs.lemmas.Bool.{false≢true, le-leb, leb-true}
use Rattle.std.proofs.lemmas.List.{take_all, take_more}
use Rattle.words.specs.Members.{In}
use Rattle.links.proofs.Members.{in_either, in_left, in_right}
use Rattle.fabric.specs.InOrder.{IsRising}
use Rattle.wire_contests.proofs.Deciding.{less_from}
use Rattle.upset_effect.specs.Reach.{AreThose}

-- two of a list
record TwoOf (xs : List ℕ) : Type 0 where
  one : ℕ
  other : ℕ
  one_in : In xs one
  other_in : In xs other
  apart : one ≢ other

two_of : (xs : List ℕ) → 2 ≤ length xs → IsRising nat_cmp xs → TwoOf xs
two_of [] h r = absurd (omega arith)
two_of (x ∷ []) h r = absurd (omega arith)
two_of (x ∷ y ∷ xs) h r = let l = less_from x y (r.0 y (inl refl)) in record { one = x; other = y; one_in = inl refl; other_in = inr (inl refl); apart = λ e. absurd (omega arith) }

one_of : (xs : List ℕ) → 1 ≤ length xs → (x : ℕ) × In xs x
one_of [] h = absurd (omega arith)
one_of (x ∷ xs) h = (x, inl refl)

one_long : (xs : List ℕ) (x : ℕ) → In xs x → 1 ≤ length xs
one_long [] x i = absurd i
one_long (y ∷ xs) x i = omega arith

two_long : (xs : List ℕ) (x y : ℕ) → In xs x → In xs y → x ≢ y → 2 ≤ length xs
two_long [] x y i j n = absurd i
two_long (z ∷ []) x y i j n = absurd (elim i [ inl e ↦ elim j [ inl d ↦ n (sym e ∙ d) | inr m ↦ absurd m ] | inr m ↦ absurd m ])
two_long (z ∷ u ∷ xs) x y i j n = omega arith

-- two numbers have a property, or some condition holds and one has it
abbrev pub Joined : (ℕ → Type 0) → Type 0 → Type 0
Joined P Out = ((x : ℕ) × ((y : ℕ) × (P x × P y × (x ≢ y)))) ⊎ (Out × ((x : ℕ) × P x))

module _ (P : ℕ → Type 0) (Out : Type 0) (xs : List ℕ) (are : AreThose P xs) where
  joined_by : (o : Bool) → (o ≡ true → Out) × (Out → o ≡ true) → (nat_le (if o then 1 else 2) (length xs) ≡ true) ↔ Joined P Out
  joined_by true t = (
    (λ h. let r = one_of xs (leb-true 1 (length xs) h) in inr (t.0 refl, (r.0, (are.members r.0).0 r.1))),
    (λ h. le-leb 1 (length xs) (elim h [
      | inl two ↦ one_long xs two.0 ((are.members two.0).1 two.1.1.0)
      | inr one ↦ one_long xs one.1.0 ((are.members one.1.0).1 one.1.1)
    ])),
  )
  joined_by false t = (
    (λ h. let r = two_of xs (leb-true 2 (length xs) h) are.rising in inl (r.one, (r.other, ((are.members r.one).0 r.one_in, (are.members r.other).0 r.other_in, r.apart)))),
    (λ h. elim h [
      | inl two ↦ le-leb 2 (length xs) (two_long xs two.0 two.1.0 ((are.members two.0).1 two.1.1.0) ((are.members two.1.0).1 two.1.1.1) two.1.1.2)
      | inr one ↦ absurd (false≢true (t.1 one.0))
    ]),
  )

  pub joined_is : (o b : Bool) → (o ≡ true → Out) × (Out → o ≡ true) → b ≡ nat_le (if o then 1 else 2) (length xs) → (b ≡ true) ↔ Joined P Out
  joined_is o b t e = ((λ h. (joined_by o t).0 (sym e ∙ h)), (λ h. e ∙ (joined_by o t).1 h))

  -- what is added for a wire
  pub shorts_added : (J : Type 0) (old new : List ℕ) (b : Bool) → (b ≡ true) ↔ J → new ≡ cond b (old ++ xs) old → (x : ℕ) → In new x ↔ (In old x ⊎ (J × P x))
  shorts_added J old new b t made x = subst (λ (zs : List ℕ). In zs x ↔ (In old x ⊎ (J × P x))) (sym made) (go b t)
    where
      go : (c : Bool) → (c ≡ true) ↔ J → In (cond c (old ++ xs) old) x ↔ (In old x ⊎ (J × P x))
      go true s = (
        (λ i. elim (in_either old xs x i) [ inl a ↦ inl a | inr b ↦ inr (s.0 refl, (are.members x).0 b) ]),
        (λ h. elim h [ inl a ↦ in_left old xs x a | inr b ↦ in_right old xs x ((are.members x).1 b.1) ]),
      )
      go false s = ((λ i. inl i), (λ h. elim h [ inl a ↦ a | inr b ↦ absurd (false≢true (s.1 b.0)) ]))

-- a source of one of some wires that is shorted
abbrev pub Shorts : (ℕ → Type 0) → (ℕ → ℕ → Type 0) → List ℕ → ℕ → Type 0
Shorts J A ws x = (w : ℕ) × (In ws w × (J w × A w x))

module _ (J : ℕ → Type 0) (A : ℕ → ℕ → Type 0) (ws : List ℕ) where
  pub shorts_more : (i w : ℕ) (old new : List ℕ) → i < length ws → w ≡ get_or ws i w → ((x : ℕ) → In old x ↔ Shorts J A (take i ws) x)
      → ((x : ℕ) → In new x ↔ (In old x ⊎ (J w × A w x))) → (x : ℕ) → In new x ↔ Shorts J A (take (i + 1) ws) x
  shorts_more i w old new below is so_far made x =
      subst (λ (zs : List ℕ). In new x ↔ Shorts J A zs x) (sym (take_more ws i w below ∙ ap (λ z. take i ws ++ z ∷ []) (sym is))) (
        (λ j. elim ((made x).0 j) [
          | inl a ↦ (let s = (so_far x).0 a in (s.0, (in_left (take i ws) (w ∷ []) s.0 s.1.0, s.1.1)))
          | inr b ↦ (w, (in_right (take i ws) (w ∷ []) w (inl refl), b))
        ]),
        (λ s. elim (in_either (take i ws) (w ∷ []) s.0 s.1.0) [
          | inl a ↦ (made x).1 (inl ((so_far x).1 (s.0, (a, s.1.1))))
          | inr b ↦ elim b [
            | inl e ↦ (made x).1 (inr (subst (λ (z : ℕ). J z × A z x) (sym e) s.1.1))
            | inr n ↦ absurd n
          ]
        ]),
      )

  pub shorts_all : (H : ℕ → Type 0) (i : ℕ) (new : List ℕ) → length ws ≤ i → ((w : ℕ) → In ws w ↔ H w) → ((x : ℕ) → In new x ↔ Shorts J A (take i ws) x)
      → (x : ℕ) → In new x ↔ ((w : ℕ) × (H w × (J w × A w x)))
  shorts_all H i new past hit so_far x =
      let all : In new x ↔ Shorts J A ws x = subst (λ (zs : List ℕ). In new x ↔ Shorts J A zs x) (take_all i ws past) (so_far x) in (
        (λ j. let s = all.0 j in (s.0, ((hit s.0).0 s.1.0, s.1.1))),
        (λ s. all.1 (s.0, ((hit s.0).1 s.1.0, s.1.1))),
      )
