-- Lists of digits and numbers stand for each other, and are in one order.
use Rattle.std.proofs.Common.{◌≡◌, ◌≢◌, ℕ, zero, suc, ◌+◌, ◌*◌, ◌^◌, ◌%◌, ◌/◌, ◌<◌, ◌≤◌, Bool, true, false, ◌==◌, List, [], ◌∷◌, length, refl, sym, ap, ap₂, subst, ◌∙◌, arith}
use Rattle.std.specs.Prelude.{if◌then◌else◌}
use Rattle.std.specs.Int.{bit_at}
use Rattle.std.specs.declared.cmp.Ordering.TheVariants.{Greater}
use Rattle.std.specs.Cmp.Lexicographic.{slice_cmp}
use Rattle.std.proofs.Math.Nat.{div-div-eq-div-mul, div-one}
use Rattle.std.proofs.lemmas.Nat.Bits.{bit_at_lowest, bit_at-suc}
use Rattle.design_checks.specs.CopyChecks.{digit_cmp}
use Rattle.table_masks.specs.Masking.{is_set}
use Rattle.table_copies.specs.Digits.{digits_of}
use Rattle.table_copies.proofs.Bits.{length_digits}

-- a digit more
abbrev pub with_digit : ℕ → Bool → ℕ
with_digit n b = (if b then 1 else 0) + 2 * n

-- the number of digits that stand behind those of a number
abbrev pub value_from : ℕ → List Bool → ℕ
value_from n [] = n
value_from n (b ∷ bs) = value_from (with_digit n b) bs

lowest : (b : Bool) (n : ℕ) → with_digit n b % 2 == 1 ≡ b
lowest true n = (let odd : (1 + 2 * n) % 2 ≡ 1 = omega arith in ap (λ x. x == 1) odd)
lowest false n = (let even : (0 + 2 * n) % 2 ≡ 0 = omega arith in ap (λ x. x == 1) even)

half : (b : Bool) (n : ℕ) → with_digit n b / 2 ≡ n
half true n = omega arith
half false n = omega arith

higher_bit : (n i : ℕ) (b : Bool) → is_set (with_digit n b) (suc i) ≡ is_set n i
higher_bit n i b = ap (λ x. x == 1) (bit_at-suc (with_digit n b) i ∙ ap (λ m. bit_at m i) (half b n))

high_bit : (bs : List Bool) (n i : ℕ) → is_set (value_from n bs) (length bs + i) ≡ is_set n i
high_bit [] n i = (let e : 0 + i ≡ i = omega arith in ap (is_set n) e)
high_bit (b ∷ bs) n i =
    (let e : suc (length bs) + i ≡ length bs + suc i = omega arith in ap (is_set (value_from (with_digit n b) bs)) e ∙ (high_bit bs (with_digit n b) (suc i) ∙ higher_bit n i b))

top_bit : (bs : List Bool) (n : ℕ) (b : Bool) → is_set (value_from (with_digit n b) bs) (length bs) ≡ b
top_bit bs n b =
    (let e : length bs ≡ length bs + 0 = omega arith in ap (is_set (value_from (with_digit n b) bs)) e ∙ (high_bit bs (with_digit n b) 0 ∙ (ap (λ x. x == 1) (bit_at_lowest (with_digit n b)) ∙ lowest b n)))

-- the digits of the number of digits are those
pub digits_back : (bs : List Bool) (n : ℕ) → digits_of (length bs) (value_from n bs) ≡ bs
digits_back [] n = refl
digits_back (b ∷ bs) n = ap₂ (λ x xs. x ∷ xs) (top_bit bs n b) (digits_back bs (with_digit n b))

below_one : (b : Bool) (n p v : ℕ) → v < (with_digit n b + 1) * p → v < (n + 1) * (2 * p)
below_one true n p v h = grind arith
below_one false n p v h = grind arith

above_one : (b : Bool) (n p v : ℕ) → with_digit n b * p ≤ v → n * (2 * p) ≤ v
above_one true n p v h = grind arith
above_one false n p v h = grind arith

pow_suc : (n : ℕ) → 2 * 2 ^ n ≡ 2 ^ suc n
pow_suc n = grind arith

pub value_below : (bs : List Bool) (n : ℕ) → value_from n bs < (n + 1) * 2 ^ length bs
value_below [] n = omega arith
value_below (b ∷ bs) n = subst (λ p. value_from n (b ∷ bs) < (n + 1) * p) (pow_suc (length bs)) (below_one b n (2 ^ length bs) (value_from n (b ∷ bs)) (value_below bs (with_digit n b)))

value_above : (bs : List Bool) (n : ℕ) → n * 2 ^ length bs ≤ value_from n bs
value_above [] n = omega arith
value_above (b ∷ bs) n = subst (λ p. n * p ≤ value_from n (b ∷ bs)) (pow_suc (length bs)) (above_one b n (2 ^ length bs) (value_from n (b ∷ bs)) (value_above bs (with_digit n b)))

pub value_small : (bs : List Bool) → value_from 0 bs < 2 ^ length bs
value_small bs = (let h = value_below bs 0 in omega arith)

digit_and : (u : ℕ) → with_digit (u / 2) (u % 2 == 1) ≡ u
digit_and u = by (u % 2) refl
  where
    by : (r : ℕ) → u % 2 ≡ r → with_digit (u / 2) (r == 1) ≡ u
    by zero e = omega arith
    by (suc zero) e = omega arith
    by (suc (suc r)) e = absurd (omega arith)

halved : (a n : ℕ) → a / 2 ^ suc n ≡ a / 2 ^ n / 2
halved a n = (let e : 2 ^ suc n ≡ 2 ^ n * 2 = grind arith in ap (λ p. a / p) e ∙ sym (div-div-eq-div-mul a (2 ^ n) 2))

value_back_by : (n a : ℕ) → value_from (a / 2 ^ n) (digits_of n a) ≡ a
value_back_by zero a = div-one a
value_back_by (suc n) a =
    ap (λ m. value_from (with_digit m (is_set a n)) (digits_of n a)) (halved a n) ∙ (ap (λ m. value_from m (digits_of n a)) (digit_and (a / 2 ^ n)) ∙ value_back_by n a)

no_rest : (a p : ℕ) → a < p → a / p ≡ 0
no_rest a p h = grind arith

-- the number of the digits of a number is that
pub value_back : (n a : ℕ) → a < 2 ^ n → value_from 0 (digits_of n a) ≡ a
value_back n a small = ap (λ m. value_from m (digits_of n a)) (sym (no_rest a (2 ^ n) small)) ∙ value_back_by n a

-- ---- order

apart : (n p v w : ℕ) → (1 + 2 * n) * p ≤ v → w < (0 + 2 * n + 1) * p → v ≤ w → ⊥
apart n p v w h k l = grind arith

in_order : (xs ys : List Bool) (n : ℕ) → length xs ≡ length ys → value_from n xs ≤ value_from n ys → slice_cmp digit_cmp xs ys ≢ Greater
in_order [] [] n same h g = (let no : ⊥ = cc in no)
in_order [] (y ∷ ys) n same h g = absurd (omega arith)
in_order (x ∷ xs) [] n same h g = absurd (omega arith)
in_order (false ∷ xs) (false ∷ ys) n same h g = in_order xs ys (0 + 2 * n) (omega arith) h g
in_order (false ∷ xs) (true ∷ ys) n same h g = (let no : ⊥ = cc in no)
in_order (true ∷ xs) (true ∷ ys) n same h g = in_order xs ys (1 + 2 * n) (omega arith) h g
in_order (true ∷ xs) (false ∷ ys) n same h g =
    let lengths : length xs ≡ length ys = omega arith in
    absurd (apart n (2 ^ length ys) (value_from (1 + 2 * n) xs) (value_from (0 + 2 * n) ys) (subst (λ k. (1 + 2 * n) * 2 ^ k ≤ value_from (1 + 2 * n) xs) lengths (value_above xs (1 + 2 * n))) (value_below ys (0 + 2 * n)) h)

-- the digits of a number come after no others of a number that isn't less
pub none_after : (n a : ℕ) (ys : List Bool) → a < 2 ^ n → length ys ≡ n → a ≤ value_from 0 ys → slice_cmp digit_cmp (digits_of n a) ys ≢ Greater
none_after n a ys small long h = in_order (digits_of n a) ys 0 (length_digits n a ∙ sym long) (subst (λ m. m ≤ value_from 0 ys) (sym (value_back n a small)) h)
