-- Walks through a list: the elements so far, and the rest.
use Rattle.std.proofs.Common.{◌≡◌, ℕ, ◌+◌, ◌<◌, length, List, [], ◌∷◌, ◌++◌, map, take, drop, get_or, Bool, true, false, cond, ◌||◌, find, Option, Some, None, refl, ap, sym, ◌∙◌}
use Rattle.std.specs.List.{list_any}
use Rattle.std.proofs.lemmas.List.{take_more, drop_more, map-append}
use Rattle.words.specs.Firsts.{first_fault_after, or_else}

-- ---- one element further

pub so_far_plain : {X : Type 0} (all : List X) (i : ℕ) (x : X) → i < length all → x ≡ get_or all i x → take (i + 1) all ≡ take i all ++ x ∷ []
so_far_plain all i x within is = rw (take_more all i x within, ← is) refl

pub left_plain : {X : Type 0} (all : List X) (i : ℕ) (x : X) → i < length all → x ≡ get_or all i x → drop i all ≡ x ∷ drop (i + 1) all
left_plain all i x within is = rw (drop_more all i x within, ← is) refl

-- the same in a list of views

pub so_far : {V X : Type 0} (view : V → X) (all : List V) (i : ℕ) (v : V) → i < length all → v ≡ get_or all i v
    → map view (take (i + 1) all) ≡ map view (take i all) ++ view v ∷ []
so_far view all i v within is = rw (take_more all i v within, ← is) (map-append view (take i all) (v ∷ []))

pub left : {V X : Type 0} (view : V → X) (all : List V) (i : ℕ) (v : V) → i < length all → v ≡ get_or all i v
    → map view (drop i all) ≡ view v ∷ map view (drop (i + 1) all)
left view all i v within is = rw (drop_more all i v within, ← is) refl

-- ---- the first fault

-- an element with a fault
pub faulty : {X E : Type 0} (fault : List X → X → Option E) (before left rest : List X) (x : X) (first : Option E) (e : E)
    → first_fault_after fault before left ≡ first → left ≡ x ∷ rest → fault before x ≡ Some e → first ≡ Some e
faulty fault before left rest x first e so_far is has =
    sym so_far ∙ ap (first_fault_after fault before) is ∙ ap (λ o. or_else o (first_fault_after fault (before ++ x ∷ []) rest)) has

-- an element without one
pub faultless : {X E : Type 0} (fault : List X → X → Option E) (before left rest : List X) (x : X) (first : Option E)
    → first_fault_after fault before left ≡ first → left ≡ x ∷ rest → fault before x ≡ None → first_fault_after fault (before ++ x ∷ []) rest ≡ first
faultless fault before left rest x first so_far is none =
    sym (ap (λ o. or_else o (first_fault_after fault (before ++ x ∷ []) rest)) none) ∙ sym (ap (first_fault_after fault before) is) ∙ so_far

-- ---- the first that passes a test

pub found_here : {X : Type 0} (test : X → Bool) (left rest : List X) (x : X) (first : Option X) → find test left ≡ first → left ≡ x ∷ rest → test x ≡ true → Some x ≡ first
found_here test left rest x first so_far is passes = sym (ap (λ b. cond b (Some x) (find test rest)) passes) ∙ sym (ap (find test) is) ∙ so_far

pub found_later : {X : Type 0} (test : X → Bool) (left rest : List X) (x : X) (first : Option X) → find test left ≡ first → left ≡ x ∷ rest → test x ≡ false → find test rest ≡ first
found_later test left rest x first so_far is fails = sym (ap (λ b. cond b (Some x) (find test rest)) fails) ∙ sym (ap (find test) is) ∙ so_far

-- tests that agree find the same
pub find_same : {X : Type 0} (a b : X → Bool) (xs : List X) → ((x : X) → a x ≡ b x) → find a xs ≡ find b xs
find_same a b [] same = refl
find_same a b (x ∷ xs) same = rw (same x, find_same a b xs same) refl

-- ---- one of two tests

or_in_turn : (a b c d : Bool) → ((a || b) || (c || d)) ≡ ((a || c) || (b || d))
or_in_turn true b c d = refl
or_in_turn false true true d = refl
or_in_turn false true false d = refl
or_in_turn false false c d = refl

pub any_of_two : {X : Type 0} (a b : X → Bool) (xs : List X) → list_any (λ x. a x || b x) xs ≡ (list_any a xs || list_any b xs)
any_of_two a b [] = refl
any_of_two a b (x ∷ xs) = rw (any_of_two a b xs) (or_in_turn (a x) (b x) (list_any a xs) (list_any b xs))
