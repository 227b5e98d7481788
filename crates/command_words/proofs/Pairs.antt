-- Options are read two words at a time.
use Rattle.std.proofs.Common.{◌≡◌, ℕ, ◌+◌, ◌<◌, ◌≤◌, List, [], ◌∷◌, ◌++◌, length, drop, map, get_or, option_map, unwrap_or, inl, inr, refl, ap, sym, ◌∙◌, append_assoc, arith}
use Rattle.std.specs.Prelude.{slice_get}
use Rattle.std.proofs.lemmas.Bool.{cases_lt}
use Rattle.std.proofs.lemmas.List.{drop_more, drop_all, get_or_default}
use Rattle.std.proofs.lemmas.Option.{slice_get-get_or, slice_get_past}
use Rattle.commands.specs.Options.{Given, given_from}

two : (i : ℕ) → i + 1 + 1 ≡ i + 2
two i = omega arith

-- the option at a place, and those behind it
pub one_pair_more : {X : Type 0} (f : X → List ℕ) (all : List X) (i n : ℕ) (x : X) → i < length all → x ≡ get_or all i x
    → given_from n (map f (drop i all))
    ≡ record { number = n; name = unwrap_or (option_map f (slice_get all i)) []; value = option_map f (slice_get all (i + 1)) } ∷ given_from (n + 2) (map f (drop (i + 2) all))
one_pair_more f all i n x within is = elim (cases_lt (i + 1) (length all)) [
  | inl more ↦ rw (slice_get-get_or all i x within, drop_more all i x within, ← is, drop_more all (i + 1) x more, slice_get-get_or all (i + 1) x more, two i) refl
  | inr past ↦ rw (slice_get-get_or all i x within, drop_more all i x within, ← is, drop_all (i + 1) all past, slice_get_past all (i + 1) past, drop_all (i + 2) all (omega arith)) refl
]

pub none_left : {X : Type 0} (f : X → List ℕ) (all : List X) (i n : ℕ) → length all ≤ i → given_from n (map f (drop i all)) ≡ []
none_left f all i n past = rw (drop_all i all past) refl

-- an option more at the end of those so far
step_with : {X : Type 0} (f : X → List ℕ) (all : List X) (i : ℕ) (d : X) (so_far : List Given) (g : Given) (whole : List Given) → i < length all
    → g ≡ record { number = i + 2; name = unwrap_or (option_map f (slice_get all i)) []; value = option_map f (slice_get all (i + 1)) }
    → so_far ++ given_from (i + 2) (map f (drop i all)) ≡ whole
    → (so_far ++ g ∷ []) ++ given_from (i + 2 + 2) (map f (drop (i + 2) all)) ≡ whole
step_with f all i d so_far g whole within is before =
    append_assoc so_far (g ∷ []) (given_from (i + 2 + 2) (map f (drop (i + 2) all)))
    ∙ ap (λ o. so_far ++ o ∷ given_from (i + 2 + 2) (map f (drop (i + 2) all))) is
    ∙ sym (ap (λ rest. so_far ++ rest) (one_pair_more f all i (i + 2) (get_or all i d) within (get_or_default all i d (get_or all i d) within)))
    ∙ before

pub step : {X : Type 0} (f : X → List ℕ) (all : List X) (i : ℕ) (so_far : List Given) (g : Given) (whole : List Given) → i < length all
    → g ≡ record { number = i + 2; name = unwrap_or (option_map f (slice_get all i)) []; value = option_map f (slice_get all (i + 1)) }
    → so_far ++ given_from (i + 2) (map f (drop i all)) ≡ whole
    → (so_far ++ g ∷ []) ++ given_from (i + 2 + 2) (map f (drop (i + 2) all)) ≡ whole
step f [] i so_far g whole within is before = absurd (omega arith)
step f (y ∷ ys) i so_far g whole within is before = step_with f (y ∷ ys) i y so_far g whole within is before
