-- What the bits of words are.
use Rattle.std.proofs.Common.{◌≡◌, ◌≢◌, ◌∙◌, ◌+◌, ◌*◌, ◌/◌, ◌%◌, ◌<◌, ℕ, zero, suc, Bool, true, false, ◌&&◌, ◌||◌, cond, List, [], ◌∷◌, Some, None, refl, sym, ap, subst, arith, ⊎_elim}
use Rattle.std.specs.Prelude.{◌==◌, if◌then◌else◌, unwrap_or}
use Rattle.std.specs.List.{list_any, AllByRecursion}
use Rattle.std.specs.Map.{lookup, keys_of}
use Rattle.std.proofs.lemmas.List.Folds.{list_any-append}
use Rattle.std.proofs.lemmas.Map.Keys.{IsDistinct-head, IsDistinct-tail}
use Rattle.std.proofs.lemmas.Nat.Bits.{bit_at-zero}
use Rattle.std.proofs.lemmas.Bool.{cases_eq, and_parts, and_right, and_from, false≢true, eqb-true, ne_eqb, eq-eqb, false_from_ne_true}
use Rattle.patterns.specs.Bits.{DeviceBit, same_bit}
use Rattle.cram_image.specs.declared.word.WordPlace.{WordPlace}
use Rattle.cram_image.specs.Words.{same_place, place_of, word_at, AreApart, has_bit, bit_in, ones_below, bits_of_words}

-- two bits of a word are the same where their numbers are
other_number : (place : WordPlace) (j k : ℕ) → j ≢ k → same_bit (bit_in place j) (bit_in place k) ≡ false
other_number place j k apart =
    and_right (place.frame == place.frame) (64 * place.number + j == 64 * place.number + k)
    (ne_eqb (64 * place.number + j) (64 * place.number + k) (λ e. apart (omega arith)))

same_number : (place : WordPlace) (k : ℕ) → same_bit (bit_in place k) (bit_in place k) ≡ true
same_number place k =
    let frames = eq-eqb place.frame place.frame refl in
    let bits = eq-eqb (64 * place.number + k) (64 * place.number + k) refl in
    λ i. frames i && bits i

-- nothing is added by what is false
or_false : (v : Bool) → (v || false) ≡ v
or_false true = refl
or_false false = refl

-- a bit that is none of a word's first is not among those that are 1
none_below : (b : DeviceBit) (place : WordPlace) (word count : ℕ) → ((k : ℕ) → k < count → same_bit b (bit_in place k) ≡ false)
    → list_any (same_bit b) (ones_below place word count) ≡ false
unfolding ones_below
none_below b place word zero none = refl
none_below b place word (suc k) none =
    by (has_bit word k) (none k (omega arith)) (none_below b place word k (λ j h. none j (omega arith)))
  where
    by : (v : Bool) → same_bit b (bit_in place k) ≡ false → list_any (same_bit b) (ones_below place word k) ≡ false
        → list_any (same_bit b) (if v then bit_in place k ∷ ones_below place word k else ones_below place word k) ≡ false
    by true here rest = λ i. here i || rest i
    by false here rest = rest

-- a bit of a word is among its first that are 1 where it is 1
one_below : (place : WordPlace) (word j count : ℕ) → j < count → list_any (same_bit (bit_in place j)) (ones_below place word count) ≡ has_bit word j
unfolding ones_below
one_below place word j zero h = absurd (omega arith)
one_below place word j (suc k) h =
    ⊎_elim
    (λ e. subst (λ n. list_any (same_bit (bit_in place n)) (ones_below place word (suc k)) ≡ has_bit word n) (sym e) (last (has_bit word k) (same_number place k) (none_below (bit_in place k) place word k (λ n below. other_number place k n (omega arith)))))
    (λ apart. before (has_bit word k) (other_number place j k apart) (one_below place word j k (omega arith)))
    (cases_eq j k)
  where
    last : (v : Bool) → same_bit (bit_in place k) (bit_in place k) ≡ true → list_any (same_bit (bit_in place k)) (ones_below place word k) ≡ false
        → list_any (same_bit (bit_in place k)) (if v then bit_in place k ∷ ones_below place word k else ones_below place word k) ≡ v
    last true here rest = λ i. here i || list_any (same_bit (bit_in place k)) (ones_below place word k)
    last false here rest = rest

    before : (v : Bool) → same_bit (bit_in place j) (bit_in place k) ≡ false → list_any (same_bit (bit_in place j)) (ones_below place word k) ≡ has_bit word j
        → list_any (same_bit (bit_in place j)) (if v then bit_in place k ∷ ones_below place word k else ones_below place word k) ≡ has_bit word j
    before true here rest = (λ i. here i || list_any (same_bit (bit_in place j)) (ones_below place word k)) ∙ rest
    before false here rest = rest

-- what is at none of the places isn't found
none_found : (place : WordPlace) (words : List (WordPlace × ℕ)) → AllByRecursion (λ p. same_place place p ≡ false) (keys_of words) → lookup (same_place place) words ≡ None
none_found place [] none = refl
none_found place (w ∷ ws) none = (λ i. cond (none.0 i) (Some w.1) (lookup (same_place place) ws)) ∙ none_found place ws none.1

-- a place that passes the test is the place
pub place_is : (p q : WordPlace) → same_place p q ≡ true → p ≡ q
place_is p q e =
    let parts = and_parts (p.frame == q.frame) (p.number == q.number) e in
    let frames = eqb-true p.frame q.frame parts.0 in
    let numbers = eqb-true p.number q.number parts.1 in
    λ i. record { frame = frames i; number = numbers i }

-- a bit is that of its number in the word at its place
bit_is : (b : DeviceBit) → b ≡ bit_in (place_of b) (b.bit % 64)
bit_is b =
    let whole : b.bit ≡ 64 * (b.bit / 64) + b.bit % 64 = omega arith in
    λ i. record { frame = b.frame; bit = whole i }

-- a bit of another place is none of a word's
other_place : (b : DeviceBit) (place : WordPlace) (k : ℕ) → k < 64 → same_place (place_of b) place ≡ false → same_bit b (bit_in place k) ≡ false
other_place b place k below other =
    false_from_ne_true (same_bit b (bit_in place k))
    (λ e. let parts = and_parts (b.frame == place.frame) (b.bit == 64 * place.number + k) e in
    let frames = eqb-true b.frame place.frame parts.0 in
    let bits = eqb-true b.bit (64 * place.number + k) parts.1 in
    let numbers : b.bit / 64 ≡ place.number = omega arith in
    false≢true (sym other ∙ and_from (b.frame == place.frame) (b.bit / 64 == place.number) (eq-eqb b.frame place.frame frames) (eq-eqb (b.bit / 64) place.number numbers)))

-- no bit of 0 is 1
no_bit_in_zero : (k : ℕ) → has_bit 0 k ≡ false
no_bit_in_zero k = ap (λ n. n == 1) (bit_at-zero k)

-- whether a bit is one of the bits of words is told by the word at its place
pub told_by_word : (words : List (WordPlace × ℕ)) (b : DeviceBit) → AreApart words
    → list_any (same_bit b) (bits_of_words words) ≡ has_bit (word_at words (place_of b)) (b.bit % 64)
told_by_word [] b apart = sym (no_bit_in_zero (b.bit % 64))
told_by_word (w ∷ ws) b apart =
    list_any-append (same_bit b) (ones_below w.0 w.1 64) (bits_of_words ws)
    ∙ by (same_place (place_of b) w.0) refl (told_by_word ws b (IsDistinct-tail same_place w.0 (keys_of ws) apart))
  where
    by : (v : Bool) → same_place (place_of b) w.0 ≡ v
        → list_any (same_bit b) (bits_of_words ws) ≡ has_bit (word_at ws (place_of b)) (b.bit % 64)
        → (list_any (same_bit b) (ones_below w.0 w.1 64) || list_any (same_bit b) (bits_of_words ws)) ≡ has_bit (unwrap_or (cond v (Some w.1) (lookup (same_place (place_of b)) ws)) 0) (b.bit % 64)
    by true e rest =
        let place = place_is (place_of b) w.0 e in
        let is : b ≡ bit_in w.0 (b.bit % 64) = bit_is b ∙ ap (λ p. bit_in p (b.bit % 64)) place in
        let first = ap (λ c. list_any (same_bit c) (ones_below w.0 w.1 64)) is ∙ one_below w.0 w.1 (b.bit % 64) 64 (omega arith) in
        let absent = none_found (place_of b) ws (subst (λ p. AllByRecursion (λ q. same_place p q ≡ false) (keys_of ws)) (sym place) (IsDistinct-head same_place w.0 (keys_of ws) apart)) in
        let none = rest ∙ ap (λ o. has_bit (unwrap_or o 0) (b.bit % 64)) absent ∙ no_bit_in_zero (b.bit % 64) in
        (λ i. first i || none i) ∙ or_false (has_bit w.1 (b.bit % 64))
    by false e rest =
        let first = none_below b w.0 w.1 64 (λ k below. other_place b w.0 k below e) in
        (λ i. first i || list_any (same_bit b) (bits_of_words ws)) ∙ rest
