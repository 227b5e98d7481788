-- What is left of a list that is sorted, with each number once.
use Rattle.std.proofs.Common.{◌≡◌, refl, Bool, true, ◌&&◌, ℕ, ◌+◌, ◌<◌, List, [], ◌∷◌, suc, get_or, sym, subst, ◌∙◌, eqb, inl, inr, arith}
use Rattle.std.proofs.lemmas.List.{get_or_default}
use Rattle.std.proofs.lemmas.List.Sorted.{Contains-permutation, IsPermutation-sym}
use Rattle.std.proofs.lemmas.List.Kept.{Contains-dedup_nat, Contains-from_dedup}
use Rattle.std.proofs.lemmas.Map.Keys.{IsStrictlyIncreasing-dedup}
use Rattle.std.specs.List.{Contains, dedup}
use Rattle.std.specs.List.Retain.{DiffersFromLast, IsFiltered}
use Rattle.std.proofs.lemmas.List.Filters.{dedup_is}
use Rattle.std.specs.declared.cmp.Ordering.{Ordering}
use Rattle.std.specs.declared.cmp.Ordering.TheVariants.{Less, Equal, Greater}
use Rattle.std.specs.List.Sorted.{IsPermutation, IsSorted, IsStrictlyIncreasing}
use Rattle.std.specs.Ordering.{nat_cmp, ordering_then}
use Rattle.words.specs.Members.{In}
use Rattle.fabric.specs.InOrder.{IsRising, InOrderOnce}
use Rattle.graph_lists.proofs.Listed.{less_is}
use Rattle.wire_contests.proofs.Deciding.{less_from}
use Rattle.net_links.proofs.Listed.{in_at, place_of}

-- std's membership is ours
in_of : (xs : List ℕ) (x : ℕ) → Contains xs x → In xs x
in_of xs x h = let b = h.1 in let d = get_or_default xs h.0 x 0 h.1 in subst (In xs) (sym d ∙ h.2) (in_at xs h.0 h.1)

of_in : (xs : List ℕ) (x : ℕ) → In xs x → Contains xs x
of_in xs x i = let p = place_of xs x i in let d = get_or_default xs p.place x 0 p.below in (p.place, p.below, d ∙ p.is)

-- the mark of the kind of a number decides nothing
and_true : (b : Bool) → (b && true) ≡ b
and_true b = elim b as (λ c. (c && true) ≡ c) [ true ↦ refl | _ ↦ refl ]

ends_tied : (o : Ordering) → ordering_then o Equal ≡ o
ends_tied Less = refl
ends_tied Equal = refl
ends_tied Greater = refl

pub same_numbers : (xs ys : List ℕ) → IsFiltered (DiffersFromLast (λ x y. eqb x y && true)) [] xs ys → ys ≡ dedup eqb xs
same_numbers xs ys h = dedup_is eqb xs ys (subst (λ (E : ℕ → ℕ → Bool). IsFiltered (DiffersFromLast E) [] xs ys) (λ i x y. and_true (eqb x y) i) h)

pub sorted_numbers : (xs : List ℕ) → IsSorted (λ x y. ordering_then (nat_cmp x y) Equal) xs → IsSorted nat_cmp xs
sorted_numbers xs h = subst (λ (f : ℕ → ℕ → Ordering). IsSorted f xs) (λ i x y. ends_tied (nat_cmp x y) i) h

tail_rises : (x : ℕ) (xs : List ℕ) → IsStrictlyIncreasing (x ∷ xs) → IsStrictlyIncreasing xs
tail_rises x xs h k l =
    let r = h (suc k) (let e : suc k + 1 ≡ suc (k + 1) = omega arith in omega arith) in
    let e : suc k + 1 ≡ suc (k + 1) = omega arith in
    subst (λ n. get_or xs k 0 < get_or (x ∷ xs) n 0) e r

first_below : (x : ℕ) (ys : List ℕ) → IsStrictlyIncreasing (x ∷ ys) → IsRising nat_cmp ys → (y : ℕ) → In ys y → x < y
first_below x [] h r y i = absurd i
first_below x (z ∷ zs) h r y i =
    let first : x < z = h 0 (omega arith) in
    elim i [ inl e ↦ omega arith | inr j ↦ (let l = less_from z y (r.0 y j) in omega arith) ]

pub rises : (xs : List ℕ) → IsStrictlyIncreasing xs → IsRising nat_cmp xs
rises [] h = tt
rises (x ∷ xs) h =
    let rest = rises xs (tail_rises x xs h) in
    ((λ y i. less_is x y (first_below x xs h rest y i)), rest)

-- what is sorted, once each number stands once
pub ordered : (xs sorted kept : List ℕ) → IsPermutation xs sorted → IsSorted nat_cmp sorted → kept ≡ dedup eqb sorted → InOrderOnce nat_cmp xs kept
ordered xs sorted kept p s e = record {
  rising = rises kept (subst IsStrictlyIncreasing (sym e) (IsStrictlyIncreasing-dedup sorted s));
  members = λ w. (
    (λ i. in_of xs w (Contains-permutation sorted xs w (IsPermutation-sym xs sorted p) (Contains-from_dedup eqb sorted w (of_in (dedup eqb sorted) w (subst (λ zs. In zs w) e i))))),
    (λ i. subst (λ zs. In zs w) (sym e) (in_of (dedup eqb sorted) w (Contains-dedup_nat sorted w (Contains-permutation xs sorted w p (of_in xs w i))))),
  );
}
