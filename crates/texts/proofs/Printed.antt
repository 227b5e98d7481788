-- What is printed is read as it was.
use Rattle.std.proofs.Common.{◌≡◌, ℕ, ◌+◌, ◌<◌, ◌≤◌, ◌^◌, List, [], ◌∷◌, ◌++◌, length, take, drop, Bool, true, false, not, Some, refl, sym, ap, ◌∙◌, arith, rules}
use Rattle.std.specs.Fmt.{decimal}
use Rattle.std.specs.List.{list_all, position_or_len, before_first, after_first}
use Rattle.std.proofs.lemmas.Bool.{le-leb}
use Rattle.std.proofs.lemmas.Bool.Decides.{nat_tests}
use Rattle.std.proofs.lemmas.List.{take_at, drop_at, drop-drop}
use Rattle.std.proofs.lemmas.Fmt.{digits_decimal, digits_value-decimal, length-decimal-le, decimal_nonempty}
use Rattle.std.proofs.lemmas.Str.Parse.{IsNumeralModel, numerals_by_fold}
use Rattle.patterns.specs.Bits.{PatternBit}
use Rattle.texts.specs.PatternBits.{is_b, bit_behind_f, pattern_bit_of, spelling_of}
use Rattle.texts.proofs.Joined.{position_or_len-append, both, both_left, both_right}
use Rattle.texts.specs.Numbers.{is_digit, value_behind, value_of, number_up_to}

own : IsNumeralModel (λ ds. list_all is_digit ds ≡ true) value_of
own = numerals_by_fold _ (search rules) value_behind (search rules)

number_at : (most v : ℕ) (word : List ℕ) → 0 < length word → length word ≤ 10 → list_all is_digit word ≡ true → value_of word ≡ v → v ≤ most → number_up_to most word ≡ Some v
number_at most v word some few digits value within =
    rw (le-leb 1 (length word) some, le-leb (length word) 10 few, digits, value, le-leb v most within) refl

pub number_of_decimal : (most n : ℕ) → n ≤ most → n < 2 ^ 32 → number_up_to most (decimal n) ≡ Some n
number_of_decimal most n within small =
    let fits : n < 2 ^ 64 = omega arith in
    number_at most n (decimal n) (decimal_nonempty n fits) (length-decimal-le 10 n (omega arith) (omega arith) fits) (digits_decimal own n fits) (digits_value-decimal own n fits) within

-- ---- the spelling of a bit

no_b : (b : ℕ) → is_digit b ≡ true → not (is_b b) ≡ true
no_b b h = grind (arith, nat_tests)

digits_have_no_b : (ds : List ℕ) → list_all is_digit ds ≡ true → list_all (λ b. not (is_b b)) ds ≡ true
digits_have_no_b [] h = refl
digits_have_no_b (d ∷ ds) h = both (not (is_b d)) _ (no_b d (both_left (is_digit d) (list_all is_digit ds) h)) (digits_have_no_b ds (both_right (is_digit d) (list_all is_digit ds) h))

behind_f : (set : Bool) (frame bit : ℕ) → frame ≤ 65535 → bit ≤ 65535 → bit_behind_f set (decimal frame ++ 66 ∷ decimal bit) ≡ Some (record { frame = frame; bit = bit; set = set })
behind_f set frame bit low high =
    let fs = decimal frame in
    let rest = fs ++ 66 ∷ decimal bit in
    let place : position_or_len is_b rest ≡ length fs = position_or_len-append is_b fs (66 ∷ decimal bit) (digits_have_no_b fs (digits_decimal own frame (omega arith))) refl in
    let before : before_first is_b rest ≡ fs = ap (λ n. take n rest) place ∙ take_at fs (66 ∷ decimal bit) (length fs) refl in
    let after : after_first is_b rest ≡ decimal bit =
    ap (λ n. drop (n + 1) rest) place ∙ (sym (drop-drop 1 (length fs) rest) ∙ ap (drop 1) (drop_at fs (66 ∷ decimal bit) (length fs) refl)) in
    rw (before, after, number_of_decimal 65535 frame low (omega arith), number_of_decimal 65535 bit high (omega arith)) refl

bit_at : (set : Bool) (frame bit : ℕ) → frame ≤ 65535 → bit ≤ 65535
    → pattern_bit_of (spelling_of (record { frame = frame; bit = bit; set = set })) ≡ Some (record { frame = frame; bit = bit; set = set })
bit_at true frame bit low high = behind_f true frame bit low high
bit_at false frame bit low high = behind_f false frame bit low high

pub bit_of_spelling : (bit : PatternBit) → bit.frame ≤ 65535 → bit.bit ≤ 65535 → pattern_bit_of (spelling_of bit) ≡ Some bit
bit_of_spelling bit low high = bit_at bit.set bit.frame bit.bit low high
