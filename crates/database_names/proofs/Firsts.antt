-- The place of a name is that of the first record that has it.
use Rattle.std.proofs.Common.{◌≡◌, ℕ, zero, suc, ◌+◌, ◌<◌, Bool, true, false, cond, List, [], ◌∷◌, length, map, Option, None, Some, option_map, refl, sym, ap, ◌∙◌, bytes_eq, arith}
use Rattle.std.specs.Prelude.{position, if◌then◌else◌}
use Rattle.std.specs.List.{position_from}
use Rattle.std.proofs.lemmas.Iterator.Adapters.{position_from-zero}
use Rattle.database_names.specs.Places.{place_in}

-- counted from one more
from_more : {X : Type 0} (p : X → Bool) (n : ℕ) (xs : List X) → position_from p (n + 1) xs ≡ option_map suc (position_from p n xs)
from_more p n [] = refl
from_more p n (x ∷ xs) = of (p x) (from_more p (n + 1) xs)
  where
    one_more : n + 1 ≡ suc n
    one_more = omega arith

    of : (b : Bool) → position_from p (n + 1 + 1) xs ≡ option_map suc (position_from p (n + 1) xs) → cond b (Some (n + 1)) (position_from p (n + 1 + 1) xs) ≡ option_map suc (cond b (Some n) (position_from p (n + 1) xs))
    of true ih = ap (λ k. Some k) one_more
    of false ih = ih

module _ {X : Type 0} (named : X → List ℕ) (name : List ℕ) where
  abbrev passes : X → Bool
  passes x = bytes_eq (named x) name

  from_zero : (items : List X) → place_in (map named items) name ≡ position_from passes 0 items
  from_zero [] = refl
  from_zero (x ∷ xs) = of (passes x) (from_zero xs ∙ refl) (from_more passes 0 xs)
    where
      of : (b : Bool) → place_in (map named xs) name ≡ position_from passes 0 xs → position_from passes (0 + 1) xs ≡ option_map suc (position_from passes 0 xs)
          → (if b then Some zero else option_map suc (place_in (map named xs) name)) ≡ cond b (Some 0) (position_from passes (0 + 1) xs)
      of true ih more = refl
      of false ih more = ap (option_map suc) ih ∙ sym more

  pub place_is_position : (items : List X) → place_in (map named items) name ≡ position passes items
  place_is_position items = from_zero items ∙ sym (position_from-zero passes items)

  -- and it is below the length
  pub below : (items : List X) (i : ℕ) → Some i ≡ place_in (map named items) name → i < length items
  below [] i h = absurd (let no : ⊥ = cc in no)
  below (x ∷ xs) i h = of (passes x) (place_in (map named xs) name) h (below xs)
    where
      of : (b : Bool) (o : Option ℕ) → Some i ≡ (if b then Some zero else option_map suc o) → ((j : ℕ) → Some j ≡ o → j < length xs) → i < length (x ∷ xs)
      of true o e ih = let first : i ≡ 0 = cc in omega arith
      of false None e ih = absurd (let no : ⊥ = cc in no)
      of false (Some j) e ih = let next : i ≡ suc j = cc in let less = ih j refl in omega arith
