-- What a change of one bit of one word leaves.
use Rattle.std.proofs.Common.{◌≡◌, ◌≢◌, ◌∙◌, ◌*◌, ◌/◌, ◌%◌, ◌^◌, ◌<◌, ℕ, Bool, true, false, cond, List, Some, None, refl, sym, ap, arith, ⊎_elim, w64, bit_and, bit_or}
use Rattle.std.specs.Prelude.{◌==◌, if◌then◌else◌, unwrap_or}
use Rattle.std.specs.Int.{bit_not}
use Rattle.std.specs.List.{list_any}
use Rattle.std.specs.Map.{lookup}
use Rattle.std.proofs.lemmas.Nat.Bits.{bit_at-zero, bit_at_set_same, bit_at_set_other, bit_at_clear_same, bit_at_clear_other}
use Rattle.std.proofs.lemmas.Bool.{cases_eq, and_parts, and_right, and_from, eqb-true, ne_eqb, eq-eqb, false_from_ne_true, false≢true}
use Rattle.patterns.specs.Bits.{DeviceBit, same_bit}
use Rattle.patterns.specs.Written.{with_bit}
use Rattle.cram_image.specs.declared.word.WordPlace.{WordPlace}
use Rattle.cram_image.specs.Image.{bits}
use Rattle.cram_image.specs.Words.{same_place, place_of, word_at, AreApart, ChangesOne, has_bit, bits_of_words}
use Rattle.cram_image.proofs.Words.{place_is, told_by_word}

-- a word in which one bit has a value, and the others are as before
one_changed : (old new place : ℕ) (value : Bool) → has_bit new place ≡ value
    → ((k : ℕ) → k < 64 → k ≢ place → has_bit new k ≡ has_bit old k) → ChangesOne old new place value
one_changed old new place value here others = record {
  bits = λ k below. ⊎_elim
      (λ e. ap (has_bit new) e ∙ here ∙ sym (ap (λ v. if v then value else has_bit old k) (eq-eqb k place e)))
      (λ other. others k below other ∙ sym (ap (λ v. if v then value else has_bit old k) (ne_eqb k place other)))
      (cases_eq k place);
}

-- what `|` and `&` leave of a word, with the bit that is set or without the one that is cleared
pub one_set : (word k : ℕ) → k < 64 → ChangesOne word (bit_or word (1 * 2 ^ k % 2 ^ 64)) k true
one_set word k below =
    one_changed word (bit_or word (1 * 2 ^ k % 2 ^ 64)) k true
    (ap (λ n. n == 1) (bit_at_set_same w64 word k below))
    (λ j h other. ap (λ n. n == 1) (bit_at_set_other w64 word k below j other))

pub one_cleared : (word k : ℕ) → k < 64 → ChangesOne word (bit_and word (bit_not w64 (1 * 2 ^ k % 2 ^ 64))) k false
one_cleared word k below =
    one_changed word (bit_and word (bit_not w64 (1 * 2 ^ k % 2 ^ 64))) k false
    (ap (λ n. n == 1) (bit_at_clear_same w64 word k below))
    (λ j h other. ap (λ n. n == 1) (bit_at_clear_other w64 word k below j h other))

-- bits of one place are the same where their numbers in the word are
same_in_word : (b c : DeviceBit) → place_of b ≡ place_of c → same_bit b c ≡ (c.bit % 64 == b.bit % 64)
same_in_word b c place =
    let frames = eq-eqb b.frame c.frame (ap (λ p. p.frame) place) in
    let numbers : b.bit / 64 ≡ c.bit / 64 = ap (λ p. p.number) place in
    ⊎_elim
    (λ e. let whole : b.bit ≡ c.bit = omega arith in
    and_from (b.frame == c.frame) (b.bit == c.bit) frames (eq-eqb b.bit c.bit whole) ∙ sym (eq-eqb (c.bit % 64) (b.bit % 64) e))
    (λ other. and_right (b.frame == c.frame) (b.bit == c.bit) (ne_eqb b.bit c.bit (λ e. other (ap (λ n. n % 64) (sym e))))
    ∙ sym (ne_eqb (c.bit % 64) (b.bit % 64) other))
    (cases_eq (c.bit % 64) (b.bit % 64))

-- what passes a test of equality is the same
pub same_is : (b c : DeviceBit) → same_bit b c ≡ true → b ≡ c
same_is b c e =
    let parts = and_parts (b.frame == c.frame) (b.bit == c.bit) e in
    let frames = eqb-true b.frame c.frame parts.0 in
    let numbers = eqb-true b.bit c.bit parts.1 in
    λ i. record { frame = frames i; bit = numbers i }

place_is_itself : (p : WordPlace) → same_place p p ≡ true
place_is_itself p = and_from (p.frame == p.frame) (p.number == p.number) (eq-eqb p.frame p.frame refl) (eq-eqb p.number p.number refl)

-- the bits of words once one bit of one word has a value
pub changed : (old new : List (WordPlace × ℕ)) (b : DeviceBit) (word : ℕ) (value : Bool) → AreApart old → AreApart new
    → ChangesOne (word_at old (place_of b)) word (b.bit % 64) value
    → ((q : WordPlace) → lookup (same_place q) new ≡ cond (same_place (place_of b) q) (Some word) (lookup (same_place q) old))
    → (c : DeviceBit) → bits (bits_of_words new) c ≡ with_bit (bits (bits_of_words old)) b value c
changed old new b word value apart still one updates c =
    told_by_word new c still ∙ by (same_place (place_of b) (place_of c)) refl
  where
    by : (v : Bool) → same_place (place_of b) (place_of c) ≡ v
        → has_bit (word_at new (place_of c)) (c.bit % 64) ≡ (if same_bit b c then value else list_any (same_bit c) (bits_of_words old))
    by true e =
        let place = place_is (place_of b) (place_of c) e in
        let kept : has_bit (word_at old (place_of b)) (c.bit % 64) ≡ list_any (same_bit c) (bits_of_words old) =
        ap (λ p. has_bit (word_at old p) (c.bit % 64)) place ∙ sym (told_by_word old c apart) in
        let same = same_in_word b c place in
        ap (λ o. has_bit (unwrap_or o 0) (c.bit % 64)) (updates (place_of c) ∙ ap (λ v. cond v (Some word) (lookup (same_place (place_of c)) old)) e)
        ∙ one.bits (c.bit % 64) (omega arith)
        ∙ (λ i. if sym same i then value else kept i)
    by false e =
        let other : same_bit b c ≡ false = false_from_ne_true (same_bit b c)
        (λ s. false≢true (sym e ∙ ap (λ d. same_place (place_of b) (place_of d)) (sym (same_is b c s)) ∙ place_is_itself (place_of b))) in
        ap (λ o. has_bit (unwrap_or o 0) (c.bit % 64)) (updates (place_of c) ∙ ap (λ v. cond v (Some word) (lookup (same_place (place_of c)) old)) e)
        ∙ sym (told_by_word old c apart)
        ∙ sym (ap (λ v. if v then value else list_any (same_bit c) (bits_of_words old)) other)

-- a bit that has no word is 0, so that clearing it changes nothing
pub cleared_already : (words : List (WordPlace × ℕ)) (b : DeviceBit) → AreApart words → lookup (same_place (place_of b)) words ≡ None
    → (c : DeviceBit) → bits (bits_of_words words) c ≡ with_bit (bits (bits_of_words words)) b false c
cleared_already words b apart none c = by (same_bit b c) refl
  where
    zero_there : bits (bits_of_words words) b ≡ false
    zero_there = told_by_word words b apart ∙ ap (λ o. has_bit (unwrap_or o 0) (b.bit % 64)) none ∙ ap (λ n. n == 1) (bit_at-zero (b.bit % 64))

    by : (v : Bool) → same_bit b c ≡ v → bits (bits_of_words words) c ≡ (if v then false else bits (bits_of_words words) c)
    by true e = ap (bits (bits_of_words words)) (sym (same_is b c e)) ∙ zero_there
    by false e = refl
