-- Addresses that are tried one by one.
use Rattle.std.proofs.Common.{◌≡◌, ℕ, suc, ◌+◌, ◌-◌, ◌<◌, ◌≤◌, Bool, true, false, sym, ap, ◌∙◌, arith}
use Rattle.std.specs.Prelude.{◌&&◌}
use Rattle.std.specs.List.{list_all, range_with_len}

-- one address is tried, and the rest is left
tried : (f : ℕ → Bool) (i count : ℕ) → i < count → list_all f (range_with_len i (count - i)) ≡ (f i && list_all f (range_with_len (i + 1) (count - (i + 1))))
tried f i count below = let e : count - i ≡ suc (count - (i + 1)) = omega arith in ap (λ n. list_all f (range_with_len i n)) e

pub one_same : (f : ℕ → Bool) (i count : ℕ) (whole : Bool) → i < count → f i ≡ true → list_all f (range_with_len i (count - i)) ≡ whole → list_all f (range_with_len (i + 1) (count - (i + 1))) ≡ whole
one_same f i count whole below is all = sym (ap (λ b. b && list_all f (range_with_len (i + 1) (count - (i + 1)))) is) ∙ (sym (tried f i count below) ∙ all)

pub one_differs : (f : ℕ → Bool) (i count : ℕ) (whole : Bool) → i < count → f i ≡ false → list_all f (range_with_len i (count - i)) ≡ whole → whole ≡ false
one_differs f i count whole below is all = sym all ∙ (tried f i count below ∙ ap (λ b. b && list_all f (range_with_len (i + 1) (count - (i + 1)))) is)

pub all_same : (f : ℕ → Bool) (i count : ℕ) (whole : Bool) → count ≤ i → list_all f (range_with_len i (count - i)) ≡ whole → whole ≡ true
all_same f i count whole over all = let e : count - i ≡ 0 = omega arith in sym all ∙ ap (λ n. list_all f (range_with_len i n)) e
