-- Bits of pins and their addresses: whether a table ignores a pin.
use Rattle.std.proofs.Common.{◌≡◌, ℕ, zero, suc, ◌+◌, ◌*◌, ◌/◌, ◌%◌, ◌^◌, ◌<◌, ◌≤◌, Bool, true, false, eqb, List, [], ◌∷◌, length, ◌⊎◌, inl, inr, refl, sym, ap, ap₂, subst, ◌∙◌, arith}
use Rattle.std.specs.Prelude.{◌==◌, ◌&&◌, if◌then◌else◌, slice_set, min, nat_lt}
use Rattle.std.specs.Int.{bit_at}
use Rattle.std.specs.List.{list_all, range_with_len}
use Rattle.std.proofs.lemmas.Bool.Decides.{nat_tests}
use Rattle.std.proofs.lemmas.Nat.Bits.{bit_at_lowest, bit_at-suc, bit_at-lt}
use native.Mathlib.Nat.{pow-suc}
use Rattle.circuit.specs.Cells.{TableCell}
use Rattle.circuit.specs.Worlds.{address}
use Rattle.circuit.specs.Parts.{OfTable}
use Rattle.circuit.specs.Tables.{Ignores}
use Rattle.pin_rules.specs.Rules.{addresses, same_at, table_ignores}

abbrev value : Bool → ℕ
value b = if b then 1 else 0

-- ---- addresses

address_below : (bits : List Bool) → address bits < 2 ^ length bits
address_below [] = omega arith
address_below (true ∷ bs) = (let rest = address_below bs in let p = pow-suc 2 (length bs) in omega arith)
address_below (false ∷ bs) = (let rest = address_below bs in let p = pow-suc 2 (length bs) in omega arith)

-- the address that has 1 at a pin lies a power of 2 above the one that has 0
set_differs : (bits : List Bool) (n : ℕ) → n < length bits → address (slice_set bits n true) ≡ address (slice_set bits n false) + 2 ^ n
set_differs [] n h = absurd (omega arith)
set_differs (x ∷ bs) zero h = omega arith
set_differs (true ∷ bs) (suc n) h = (let rest = set_differs bs n (omega arith) in let p = pow-suc 2 n in omega arith)
set_differs (false ∷ bs) (suc n) h = (let rest = set_differs bs n (omega arith) in let p = pow-suc 2 n in omega arith)

half : (b : Bool) (a : ℕ) → (value b + 2 * a) / 2 ≡ a
half true a = omega arith
half false a = omega arith

odd : (b : Bool) (a : ℕ) → (value b + 2 * a) % 2 ≡ value b
odd true a = omega arith
odd false a = omega arith

bit_next : (b : Bool) (a n : ℕ) → bit_at (value b + 2 * a) (suc n) ≡ bit_at a n
bit_next b a n = bit_at-suc (value b + 2 * a) n ∙ ap (λ m. bit_at m n) (half b a)

bit_first : (b : Bool) (a : ℕ) → bit_at (value b + 2 * a) 0 ≡ value b
bit_first b a = bit_at_lowest (value b + 2 * a) ∙ odd b a

clear_at : (bits : List Bool) (n : ℕ) → n < length bits → bit_at (address (slice_set bits n false)) n ≡ 0
clear_at [] n h = absurd (omega arith)
clear_at (x ∷ bs) zero h = bit_first false (address bs)
clear_at (x ∷ bs) (suc n) h = bit_next x (address (slice_set bs n false)) n ∙ clear_at bs n (omega arith)

length_set : (bits : List Bool) (n : ℕ) (b : Bool) → length (slice_set bits n b) ≡ length bits
length_set [] n b = refl
length_set (x ∷ bs) zero b = refl
length_set (x ∷ bs) (suc n) b = ap suc (length_set bs n b)

-- bits that have 0 at a pin already
value_false : (b : Bool) → value b ≡ 0 → b ≡ false
value_false true h = absurd (omega arith)
value_false false h = refl

set_same : (bits : List Bool) (n : ℕ) → n < length bits → bit_at (address bits) n ≡ 0 → slice_set bits n false ≡ bits
set_same [] n h e = absurd (omega arith)
set_same (x ∷ bs) zero h e = ap (λ b. b ∷ bs) (sym (value_false x (sym (bit_first x (address bs)) ∙ e)))
set_same (x ∷ bs) (suc n) h e = ap (λ ys. x ∷ ys) (set_same bs n (omega arith) (sym (bit_next x (address bs) n) ∙ e))

-- ---- the bits of an address

bits_of : ℕ → ℕ → List Bool
bits_of zero a = []
bits_of (suc m) a = (a % 2 == 1) ∷ bits_of m (a / 2)

length_bits : (m a : ℕ) → length (bits_of m a) ≡ m
unfolding bits_of
length_bits zero a = refl
length_bits (suc m) a = ap suc (length_bits m (a / 2))

value_odd : (r : ℕ) → r < 2 → value (r == 1) ≡ r
value_odd zero h = refl
value_odd (suc zero) h = refl
value_odd (suc (suc r)) h = absurd (omega arith)

odd_below : (a : ℕ) → a % 2 < 2
odd_below a = omega arith

address_bits : (m a : ℕ) → a < 2 ^ m → address (bits_of m a) ≡ a
unfolding bits_of
address_bits zero a h = omega arith
address_bits (suc m) a h =
    let p = pow-suc 2 m in
    let below : a / 2 < 2 ^ m = omega arith in
    let rest = address_bits m (a / 2) below in
    let first = value_odd (a % 2) (odd_below a) in
    let whole : a % 2 + 2 * (a / 2) ≡ a = omega arith in
    ap₂ (λ x y. x + 2 * y) first rest ∙ whole

-- ---- all addresses

true_false : true ≡ false → ⊥
true_false h = (let no : ⊥ = cc in no)

both : (a b : Bool) → (a && b) ≡ true → (a ≡ true) × (b ≡ true)
both true b h = (refl, h)
both false b h = absurd (true_false (sym h))

all_to : (f : ℕ → Bool) (start n : ℕ) → list_all f (range_with_len start n) ≡ true → (i : ℕ) → start ≤ i → i < start + n → f i ≡ true
all_to f start zero h i low high = absurd (omega arith)
all_to f start (suc n) h i low high = elim (equal_or_above start i low) [
  | inl e ↦ subst (λ k. f k ≡ true) e (both (f start) (list_all f (range_with_len (start + 1) n)) h).0
  | inr l ↦ all_to f (start + 1) n (both (f start) (list_all f (range_with_len (start + 1) n)) h).1 i (omega arith) (omega arith)
]
  where
    equal_or_above : (a b : ℕ) → a ≤ b → (a ≡ b) ⊎ (a < b)
    equal_or_above a b k = by_test (eqb a b) refl
      where
        by_test : (t : Bool) → eqb a b ≡ t → (a ≡ b) ⊎ (a < b)
        by_test true e = inl (grind (arith, nat_tests))
        by_test false e = inr (grind (arith, nat_tests))

to_all : (f : ℕ → Bool) (start n : ℕ) → ((i : ℕ) → start ≤ i → i < start + n → f i ≡ true) → list_all f (range_with_len start n) ≡ true
to_all f start zero h = refl
to_all f start (suc n) h =
    ap₂ (λ a b. a && b) (h start (omega arith) (omega arith)) (to_all f (start + 1) n (λ i low high. h i (omega arith) (omega arith)))

-- ---- one address

number_equal : (x y : ℕ) → (x == y) ≡ true → x ≡ y
number_equal x y h = grind (arith, nat_tests)

equal_number : (x y : ℕ) → x ≡ y → (x == y) ≡ true
equal_number x y h = grind (arith, nat_tests)

below_number : (x y : ℕ) → x < y → nat_lt x y ≡ true
below_number x y h = grind (arith, nat_tests)

bits_equal : (x y : ℕ) → x < 2 → y < 2 → (y == 1) ≡ (x == 1) → x ≡ y
bits_equal zero zero h k e = refl
bits_equal zero (suc zero) h k e = absurd (true_false e)
bits_equal (suc zero) zero h k e = absurd (true_false (sym e))
bits_equal (suc zero) (suc zero) h k e = refl
bits_equal (suc (suc x)) y h k e = absurd (omega arith)
bits_equal x (suc (suc y)) h k e = absurd (omega arith)

module _ (word n a : ℕ) where
  abbrev test : Bool
  test = bit_at word a == bit_at word (a + 2 ^ n)

  same_from : same_at word n a ≡ true → bit_at a n ≡ 0 → (bit_at word (a + 2 ^ n) == 1) ≡ (bit_at word a == 1)
  same_from h e =
      let is : test ≡ true = sym (ap (λ b. if b then test else true) (equal_number (bit_at a n) 0 e)) ∙ h in
      ap (λ k. k == 1) (sym (number_equal (bit_at word a) (bit_at word (a + 2 ^ n)) is))

  same_by : (b : Bool) → (bit_at a n == 0) ≡ b → (bit_at a n ≡ 0 → (bit_at word (a + 2 ^ n) == 1) ≡ (bit_at word a == 1)) → (if b then test else true) ≡ true
  same_by false e h = refl
  same_by true e h =
      let same = bits_equal (bit_at word a) (bit_at word (a + 2 ^ n)) (bit_at-lt word a) (bit_at-lt word (a + 2 ^ n)) (h (number_equal (bit_at a n) 0 e)) in
      equal_number (bit_at word a) (bit_at word (a + 2 ^ n)) same

  same_to : (bit_at a n ≡ 0 → (bit_at word (a + 2 ^ n) == 1) ≡ (bit_at word a == 1)) → same_at word n a ≡ true
  same_to h = same_by (bit_at a n == 0) refl h

-- ---- a table

module _ (t : TableCell) (n : ℕ) (few : length t.pins ≤ 4) (own : n < length t.pins) where
  many : addresses (length t.pins) ≡ 2 ^ length t.pins
  many = (let e : min (length t.pins) 4 ≡ length t.pins = omega arith in ap (λ k. 2 ^ k) e)

  pub ignored_from : table_ignores t n ≡ true → Ignores (OfTable t) n
  ignored_from h = λ bits long.
      let all = (both (nat_lt n 4) (list_all (same_at t.word n) (range_with_len 0 (addresses (length t.pins)))) h).1 in
      let a = address (slice_set bits n false) in
      let size : length (slice_set bits n false) ≡ length t.pins = length_set bits n false ∙ long in
      let below : a < 2 ^ length t.pins = subst (λ k. a < 2 ^ k) size (address_below (slice_set bits n false)) in
      let within : a < 0 + addresses (length t.pins) = subst (λ k. a < 0 + k) (sym many) (let h : a < 0 + 2 ^ length t.pins = omega arith in h) in
      let there : n < length bits = omega arith in
      let same = all_to (same_at t.word n) 0 (addresses (length t.pins)) all a (omega arith) within in
      ap (λ k. bit_at t.word k == 1) (set_differs bits n there) ∙ same_from t.word n a same (clear_at bits n there)

  at_address : Ignores (OfTable t) n → (i : ℕ) → i < 2 ^ length t.pins → bit_at i n ≡ 0 → (bit_at t.word (i + 2 ^ n) == 1) ≡ (bit_at t.word i == 1)
  at_address h i below clear =
      let bits = bits_of (length t.pins) i in
      let long : length bits ≡ length t.pins = length_bits (length t.pins) i in
      let is : address bits ≡ i = address_bits (length t.pins) i below in
      let there : n < length bits = omega arith in
      let same : slice_set bits n false ≡ bits = set_same bits n there (ap (λ k. bit_at k n) is ∙ clear) in
      let down : address (slice_set bits n false) ≡ i = ap address same ∙ is in
      let up : address (slice_set bits n true) ≡ i + 2 ^ n = set_differs bits n there ∙ ap (λ k. k + 2 ^ n) down in
      ap (λ k. bit_at t.word k == 1) (sym up) ∙ (h bits long ∙ ap (λ k. bit_at t.word k == 1) down)

  pub ignored_to : Ignores (OfTable t) n → table_ignores t n ≡ true
  ignored_to h =
      let first : nat_lt n 4 ≡ true = below_number n 4 (omega arith) in
      let all = to_all (same_at t.word n) 0 (addresses (length t.pins)) (λ i low high. same_to t.word n i (at_address h i (let k : i < 2 ^ length t.pins = subst (λ m. i < m) many (omega arith) in k))) in
      ap₂ (λ a b. a && b) first all
