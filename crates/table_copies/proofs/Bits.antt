-- Digits of numbers.
use Rattle.std.proofs.Common.{◌≡◌, ℕ, zero, suc, ◌-◌, ◌^◌, ◌<◌, ◌≤◌, false, ◌==◌, List, [], ◌∷◌, length, get_or, refl, sym, ap, ◌∙◌, arith}
use Rattle.std.proofs.lemmas.Nat.Bits.{bit_at_above}
use Rattle.table_masks.specs.Masking.{is_set}
use Rattle.table_copies.specs.Digits.{digits_of}

pub no_bit : (n k : ℕ) → n < 2 ^ 32 → 32 ≤ k → false ≡ is_set n k
no_bit n k small over = sym (ap (λ b. b == 1) (bit_at_above n 32 k small over))

-- ---- the digits of a number

pub length_digits : (n a : ℕ) → length (digits_of n a) ≡ n
length_digits zero a = refl
length_digits (suc n) a = ap suc (length_digits n a)

pub past : {X : Type 0} (xs : List X) (i : ℕ) (d : X) → length xs ≤ i → d ≡ get_or xs i d
past [] i d h = refl
past (x ∷ xs) zero d h = absurd (omega arith)
past (x ∷ xs) (suc i) d h = past xs i d (omega arith)

-- a digit is a bit
pub digit_is : (n a i : ℕ) → i < n → is_set a (n - 1 - i) ≡ get_or (digits_of n a) i false
digit_is zero a i h = absurd (omega arith)
digit_is (suc n) a zero h = (let e : suc n - 1 - 0 ≡ n = omega arith in ap (is_set a) e)
digit_is (suc n) a (suc i) h = (let e : suc n - 1 - suc i ≡ n - 1 - i = omega arith in ap (is_set a) e ∙ digit_is n a i (omega arith))

pub no_digit : (n a i : ℕ) → n ≤ i → false ≡ get_or (digits_of n a) i false
no_digit n a i h = past (digits_of n a) i false (let e = length_digits n a in omega arith)
