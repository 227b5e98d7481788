-- The first element that passes a test, by its place.
use Rattle.std.proofs.Common.{◌≡◌, ℕ, ◌<◌, Bool, true, false, cond, List, length, Option, None, Some, option_and_then, refl, sym, ap, ◌∙◌, arith}
use Rattle.std.specs.Prelude.{find, position, slice_get, nat_lt}
use Rattle.std.specs.List.{position_or_len}
use Rattle.std.proofs.lemmas.Bool.{false≢true}
use Rattle.words.specs.Members.{In}
use Rattle.std.proofs.lemmas.List.Folds.{find_at}
use Rattle.std.proofs.lemmas.List.Quantifiers.{position-Some}
use Rattle.fabric_laws.proofs.Members.{find_from}
use Rattle.fabric_laws.proofs.Numbered.{at_position, get_in, position_there}
use Rattle.bit_rows.proofs.Rising.{or_is}

-- no element is found where none passes
pub find_none : {X : Type 0} (t : X → Bool) (xs : List X) → ((y : X) → In xs y → t y ≡ true → ⊥) → find t xs ≡ None
find_none {X} t xs never = go (find t xs) refl
  where
    go : (o : Option X) → find t xs ≡ o → o ≡ None
    go None e = refl
    go (Some y) e = absurd (let found = find_from t xs y e in never y found.0 found.1)

module _ {X : Type 0} (p : X → Bool) (xs : List X) where
  -- what stands at the place of the first that passes
  pub record IsFirst (i : ℕ) : Type 0 where
    pub it : X
    pub at : slice_get xs i ≡ Some it
    pub passes : p it ≡ true
    pub first : (k : ℕ) (y : X) → k < i → slice_get xs k ≡ Some y → p y ≡ true → ⊥

  pub first_of : (i : ℕ) → position p xs ≡ Some i → IsFirst i
  first_of i h =
      let there = at_position p xs i h in
      let before = position-Some p xs i there.0 h in
      record {
        it = there.0;
        at = there.1.0;
        passes = there.1.1;
        first = λ k y less at t. false≢true (sym (before.2 k less) ∙ (ap p (or_is xs k y there.0 at) ∙ t));
      }

  pub none_passes : position p xs ≡ None → (k : ℕ) (y : X) → slice_get xs k ≡ Some y → p y ≡ true → ⊥
  none_passes h k y at t =
      let found = position_there p xs y (get_in xs k y at) t in
      let wrong : None ≡ Some found.0 = sym h ∙ found.1 in
      let no : ⊥ = cc in no

  -- the place of an element that passes, before which none does
  pub first_at : (i : ℕ) (x : X) → slice_get xs i ≡ Some x → p x ≡ true → ((k : ℕ) (y : X) → k < i → slice_get xs k ≡ Some y → p y ≡ true → ⊥) → position p xs ≡ Some i
  first_at i x at passes before =
      let found = position_there p xs x (get_in xs i x at) passes in
      let there = at_position p xs found.0 found.1 in
      let first = position-Some p xs found.0 x found.1 in
      let not_before : found.0 < i → ⊥ = λ less. before found.0 there.0 less there.1.0 there.1.1 in
      let not_behind : i < found.0 → ⊥ = λ less. false≢true (sym (first.2 i less) ∙ (ap p (or_is xs i x x at) ∙ passes)) in
      let same : found.0 ≡ i = omega arith in
      found.1 ∙ ap (λ k. Some k) same

  pub none_at : ((k : ℕ) (y : X) → slice_get xs k ≡ Some y → p y ≡ true → ⊥) → position p xs ≡ None
  none_at never = go (position p xs) refl
    where
      go : (o : Option ℕ) → position p xs ≡ o → o ≡ None
      go None e = refl
      go (Some i) e = absurd (let there = at_position p xs i e in never i there.0 there.1.0 there.1.1)

  place_is : (b : Bool) (n i : ℕ) → cond b (Some n) None ≡ Some i → n ≡ i
  place_is true n i h = let same : n ≡ i = cc in same
  place_is false n i h = absurd (let no : ⊥ = cc in no)

  -- what is found stands at the place
  pub found_at : (o : Option ℕ) → position p xs ≡ o → find p xs ≡ option_and_then (slice_get xs) o
  found_at None h = find_none p xs (λ y i t. (let found = position_there p xs y i t in let wrong : None ≡ Some found.0 = sym h ∙ found.1 in let no : ⊥ = cc in no))
  found_at (Some i) h = find_at p xs ∙ ap (slice_get xs) (place_is (nat_lt (position_or_len p xs) (length xs)) (position_or_len p xs) i h)
