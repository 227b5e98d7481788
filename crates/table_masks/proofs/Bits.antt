-- Bits of numbers, and numbers as the addresses of lists of bits.
use Rattle.std.proofs.Common.{◌≡◌, ℕ, zero, suc, ◌+◌, ◌*◌, ◌^◌, ◌%◌, ◌/◌, ◌<◌, ◌≤◌, Bool, true, false, ◌==◌, List, [], ◌∷◌, length, get_or, inl, inr, refl, sym, ap, subst, ◌∙◌, arith}
use Rattle.std.specs.Prelude.{if◌then◌else◌}
use Rattle.std.specs.Int.{bit_at}
use Rattle.std.proofs.lemmas.Bool.{eqb-true}
use Rattle.std.proofs.lemmas.Nat.Bits.{bit_at_above, bit_at-zero, bit_at_lowest, bit_at-suc, bit_at-lt, same_from_bits_below}
use Rattle.std.proofs.lemmas.Nat.{pow_below}
use Rattle.links.proofs.Members.{same_number}
use Rattle.circuit.specs.Worlds.{address}
use Rattle.table_masks.specs.Masking.{is_set}

pub no_bit : (n k : ℕ) → n < 2 ^ 16 → 16 ≤ k → false ≡ is_set n k
no_bit n k small over = sym (ap (λ b. b == 1) (bit_at_above n 16 k small over))

-- ---- the address of bits

lowest : (b : Bool) (rest : ℕ) → ((if b then 1 else 0) + 2 * rest) % 2 == 1 ≡ b
lowest true rest = (let odd : (1 + 2 * rest) % 2 ≡ 1 = omega arith in ap (λ x. x == 1) odd)
lowest false rest = (let even : (0 + 2 * rest) % 2 ≡ 0 = omega arith in ap (λ x. x == 1) even)

half : (b : Bool) (rest : ℕ) → ((if b then 1 else 0) + 2 * rest) / 2 ≡ rest
half true rest = omega arith
half false rest = omega arith

-- its bits are those
pub set_address : (bits : List Bool) (i : ℕ) → is_set (address bits) i ≡ get_or bits i false
set_address [] i = ap (λ x. x == 1) (bit_at-zero i)
set_address (b ∷ bs) zero = ap (λ x. x == 1) (bit_at_lowest ((if b then 1 else 0) + 2 * address bs)) ∙ lowest b (address bs)
set_address (b ∷ bs) (suc i) =
    ap (λ x. x == 1) (bit_at-suc ((if b then 1 else 0) + 2 * address bs) i ∙ ap (λ n. bit_at n i) (half b (address bs))) ∙ set_address bs i

one_more : (b : Bool) (rest n : ℕ) → rest < 2 ^ n → ((if b then 1 else 0) + 2 * rest) < 2 ^ suc n
one_more true rest n h = grind arith
one_more false rest n h = grind arith

-- it is below the count of addresses
pub address_below : (bits : List Bool) → address bits < 2 ^ length bits
address_below [] = omega arith
address_below (b ∷ bs) = one_more b (address bs) (length bs) (address_below bs)

same_bit : (a b : ℕ) → a < 2 → b < 2 → (a == 1) ≡ (b == 1) → a ≡ b
same_bit a b small less e = elim (same_number a 1) [
  | inl one ↦ one ∙ sym (eqb-true b 1 (sym e ∙ ap (λ x. x == 1) one))
  | inr other ↦ elim (same_number b 1) [
    | inl one ↦ absurd (other (eqb-true a 1 (e ∙ ap (λ x. x == 1) one)))
    | inr another ↦ both_zero a b small less other another
  ]
]
  where
    both_zero : (a b : ℕ) → a < 2 → b < 2 → (a ≡ 1 → ⊥) → (b ≡ 1 → ⊥) → a ≡ b
    both_zero a b small less h k = omega arith

-- a number is the address of its bits
pub same_address : (n : ℕ) (bits : List Bool) → n < 2 ^ length bits → ((i : ℕ) → i < length bits → get_or bits i false ≡ is_set n i) → address bits ≡ n
same_address n bits small same =
    same_from_bits_below (length bits) (address bits) n (address_below bits) small
    (λ i below. same_bit (bit_at (address bits) i) (bit_at n i) (bit_at-lt (address bits) i) (bit_at-lt n i) (set_address bits i ∙ same i below))
