-- What std's heap says of its elements, in the words of the queue.
use Rattle.std.proofs.Common.{◌≡◌, ℕ, ◌-◌, ◌≤◌, ◌<◌, List, [], ◌∷◌, length, get_or, zero, suc, refl, sym, subst, ap, ◌⊎◌, inl, inr, arith}
use Rattle.std.specs.List.{Contains, All}
use Rattle.std.specs.List.Sorted.{IsPermutation}
use Rattle.std.proofs.lemmas.List.Elements.{All-contains}
use Rattle.std.proofs.lemmas.List.Sorted.{Contains-permutation, IsPermutation-sym, length_permutation}
use Rattle.words.specs.Members.{In}
use Rattle.wire_queue.specs.Waiting.{most, Waits, LetIn, Leaves}

in_at : {X : Type 0} (xs : List X) (i : ℕ) (d : X) → i < length xs → In xs (get_or xs i d)
in_at [] i d h = absurd (omega arith)
in_at (x ∷ xs) zero d h = inl refl
in_at (x ∷ xs) (suc i) d h = inr (in_at xs i d (omega arith))

in_of : {X : Type 0} (xs : List X) (x : X) → Contains xs x → In xs x
in_of xs x h = subst (In xs) h.2 (in_at xs h.0 x h.1)

of_in : {X : Type 0} (xs : List X) (x : X) → In xs x → Contains xs x
of_in [] x i = absurd i
of_in (y ∷ ys) x i = elim i [
  | inl e ↦ (0, (let k : 0 < length (y ∷ ys) = omega arith in k), e)
  | inr j ↦ (let c = of_in ys x j in let b = c.1 in (suc c.0, (let k : suc c.0 < length (y ∷ ys) = omega arith in k), c.2))
]

moved : {X : Type 0} (xs ys : List X) (x : X) → IsPermutation xs ys → In xs x → In ys x
moved xs ys x p i = in_of ys x (Contains-permutation xs ys x p (of_in xs x i))

let_in_at : (old new : List (ℕ × ℕ)) (weight w : ℕ) → IsPermutation ((most - weight, w) ∷ old) new → LetIn old new weight w
let_in_at old new weight w p = record {
  waits = moved ((most - weight, w) ∷ old) new (most - weight, w) p (inl refl);
  stay = λ other x i. moved ((most - weight, w) ∷ old) new (most - other, x) p (inr i);
  others = λ entry i. elim (moved new ((most - weight, w) ∷ old) entry (IsPermutation-sym ((most - weight, w) ∷ old) new p) i) as (λ _. (entry.1 ≡ w) ⊎ In old entry) [ inl e ↦ inl (sym (ap (λ (k : ℕ × ℕ). k.1) e)) | inr j ↦ inr j ];
  count = (let n = length_permutation ((most - weight, w) ∷ old) new p in omega arith);
}

pub let_in : (old new : List (ℕ × ℕ)) (weight w left : ℕ) → left ≡ most - weight → IsPermutation ((left, w) ∷ old) new → LetIn old new weight w
let_in old new weight w left e p = let_in_at old new weight w (subst (λ k. IsPermutation ((k, w) ∷ old) new) e p)

pub leaves : (old new : List (ℕ × ℕ)) (left w : ℕ) → left ≤ most → IsPermutation old ((left, w) ∷ new) → All (λ y. y.0 ≤ left) new → Leaves old new (most - left) w
leaves old new left w small p greatest =
    let back : most - (most - left) ≡ left = omega arith in
    record {
      waited = subst (λ k. In old (k, w)) (sym back) (moved ((left, w) ∷ new) old (left, w) (IsPermutation-sym old ((left, w) ∷ new) p) (inl refl));
      stay = λ other x le i. elim (moved old ((left, w) ∷ new) (most - other, x) p i) as (λ _. ((other ≡ most - left) × (x ≡ w)) ⊎ Waits new other x) [
        | inl e ↦ (let f : left ≡ most - other = ap (λ (k : ℕ × ℕ). k.0) e in inl ((let k : other ≡ most - left = omega arith in k), sym (ap (λ (k : ℕ × ℕ). k.1) e)))
        | inr j ↦ inr j
      ];
      least = λ other x le i. let g : most - other ≤ left = All-contains (λ (y : ℕ × ℕ). y.0 ≤ left) new (most - other, x) greatest (of_in new (most - other, x) i) in omega arith;
      others = λ entry i. moved ((left, w) ∷ new) old entry (IsPermutation-sym old ((left, w) ∷ new) p) (inr i);
      count = (let n = length_permutation old ((left, w) ∷ new) p in omega arith);
    }

pub none_left : (xs : List (ℕ × ℕ)) → length xs ≡ 0 → xs ≡ []
none_left [] e = refl
none_left (x ∷ xs) e = absurd (omega arith)
