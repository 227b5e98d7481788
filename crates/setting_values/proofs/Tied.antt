-- The value of the options that are tied.
use Rattle.std.proofs.Common.{◌≡◌, ℕ, ◌<◌, ◌≤◌, Bool, true, false, cond, List, [], ◌∷◌, length, map, Option, Some, option_map, refl, sym, ap, ◌∙◌, arith, bytes_eq}
use Rattle.std.specs.Prelude.{filter, find, option_and_then, slice_get}
use Rattle.patterns.specs.Bits.{DeviceBit, Bits}
use Rattle.patterns.specs.Fits.{fits}
use Rattle.records.specs.Database.{EnumOption}
use Rattle.fabric.specs.Chosen.{best_fits, is_best_fit}
use Rattle.fabric.specs.Settings.{value_of_tied}
use Rattle.chosen_arcs.specs.Places.{IsMost}
use Rattle.chosen_arcs.proofs.Longest.{best_is}
use Rattle.setting_values.specs.Tied.{fits_with}

-- the options that fit with the most bits are those that are tied
pub tied_are : (image : Bits) (origin : DeviceBit) (m : ℕ) (xs : List EnumOption) → IsMost (λ o. fits image origin o.bits) (λ o. length o.bits) xs m
    → filter (fits_with image origin m) xs ≡ best_fits (λ o. o.bits) image origin xs
tied_are image origin m xs most =
    let same : fits_with image origin m ≡ is_best_fit (λ o. o.bits) image origin xs = (λ i. λ o. best_is (λ (o : EnumOption). o.bits) image origin xs m most o i) in
    ap (λ test. filter test xs) same

pub value_is : (image : Bits) (origin : DeviceBit) (m : ℕ) (xs : List EnumOption) (default : Option (List ℕ)) → IsMost (λ o. fits image origin o.bits) (λ o. length o.bits) xs m
    → value_of_tied (filter (fits_with image origin m) xs) default ≡ value_of_tied (best_fits (λ o. o.bits) image origin xs) default
value_is image origin m xs default most = ap (λ os. value_of_tied os default) (tied_are image origin m xs most)

-- the first that passes is the first of those that pass
first_is : {X : Type 0} (test : X → Bool) (xs : List X) → find test xs ≡ slice_get (filter test xs) 0
first_is test [] = refl
first_is test (x ∷ xs) = go (test x) (first_is test xs)
  where
    go : (b : Bool) → find test xs ≡ slice_get (filter test xs) 0 → cond b (Some x) (find test xs) ≡ slice_get (cond b (x ∷ filter test xs) (filter test xs)) 0
    go true e = refl
    go false e = e

few_of : (os : List EnumOption) (default : Option (List ℕ)) → length os ≤ 1 → value_of_tied os default ≡ option_map (λ o. o.value) (slice_get os 0)
few_of [] default l = refl
few_of (o ∷ []) default l = refl
few_of (o ∷ p ∷ os) default l = absurd (let no : ⊥ = omega arith in no)

-- where at most one option passes it has the value
pub few_tied : (test : EnumOption → Bool) (xs : List EnumOption) (default : Option (List ℕ)) (n : ℕ) → n ≡ length (filter test xs) → n ≤ 1
    → value_of_tied (filter test xs) default ≡ option_map (λ o. o.value) (find test xs)
few_tied test xs default n e l =
    few_of (filter test xs) default (let k : length (filter test xs) ≤ 1 = omega arith in k) ∙ ap (option_map (λ o. o.value)) (sym (first_is test xs))

many_of : (os : List EnumOption) (default : Option (List ℕ)) → 1 < length os → value_of_tied os default ≡ option_and_then (λ value. find (bytes_eq value) (map (λ q. q.value) os)) default
many_of [] default l = absurd (let no : ⊥ = omega arith in no)
many_of (o ∷ []) default l = absurd (let no : ⊥ = omega arith in no)
many_of (o ∷ p ∷ os) default l = refl

-- where several pass it is the default's
pub many_tied : (test : EnumOption → Bool) (xs : List EnumOption) (default : Option (List ℕ)) (n : ℕ) → n ≡ length (filter test xs) → 1 < n
    → value_of_tied (filter test xs) default ≡ option_and_then (λ value. find (bytes_eq value) (map (λ q. q.value) (filter test xs))) default
many_tied test xs default n e l = many_of (filter test xs) default (let k : 1 < length (filter test xs) = omega arith in k)
