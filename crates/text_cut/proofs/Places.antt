-- The place that a search answers, as a place or the length.
use Rattle.std.proofs.Common.{◌≡◌, ℕ, ◌<◌, List, length, get_or, Bool, true, false, Option, Some, None, sym, arith}
use Rattle.std.proofs.lemmas.Bool.{false_from_ne_true}
use Rattle.std.proofs.lemmas.List.Sums.{position_or_len_is}
use Rattle.std.specs.Option.{unwrap_or}
use Rattle.std.specs.List.{position_or_len}
use Rattle.memchr.specs.Find.{IsFirstByte}

-- what memchr answers
pub place_of_first : (test : ℕ → Bool) (xs : List ℕ) (r : Option ℕ) → IsFirstByte test xs r → unwrap_or r (length xs) ≡ position_or_len test xs
place_of_first test xs None h =
    sym (position_or_len_is test xs (length xs) 0 (omega arith) (λ k l. false_from_ne_true (test (get_or xs k 0)) (h k (omega arith) l)) (λ l. absurd (omega arith)))
place_of_first test xs (Some i) h =
    sym (position_or_len_is test xs i 0 (omega (arith, h.0.high)) (λ k l. false_from_ne_true (test (get_or xs k 0)) (h.0.before k (omega arith) l)) (λ l. h.1))

-- where a loop over the places stops
pub place_here : (test : ℕ → Bool) (xs : List ℕ) (i : ℕ) → i < length xs → ((k : ℕ) → k < i → test (get_or xs k 0) ≡ false) → test (get_or xs i 0) ≡ true → i ≡ position_or_len test xs
place_here test xs i within before here = sym (position_or_len_is test xs i 0 (omega arith) before (λ l. here))

-- where it runs to the end
pub place_nowhere : (test : ℕ → Bool) (xs : List ℕ) → ((k : ℕ) → k < length xs → test (get_or xs k 0) ≡ false) → length xs ≡ position_or_len test xs
place_nowhere test xs none = sym (position_or_len_is test xs (length xs) 0 (omega arith) none (λ l. absurd (omega arith)))
