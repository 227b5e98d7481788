-- Numbers as digits, the highest first. (Our own.)
use Rattle.std.specs.Prelude.{ℕ, zero, suc, Bool, List, [], ◌∷◌}
use Rattle.table_masks.specs.Masking.{is_set}

-- so many binary digits of a number
abbrev pub digits_of : ℕ → ℕ → List Bool
digits_of zero number = []
digits_of (suc n) number = is_set number n ∷ digits_of n number
