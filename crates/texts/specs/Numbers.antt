-- Decimal numbers. (Our own.)
use Rattle.std.specs.Prelude.{ℕ, ◌+◌, ◌-◌, ◌*◌, ◌^◌, Bool, List, [], ◌∷◌, length, Option, Some, None, nat_le, nat_lt, ◌&&◌, if◌then◌else◌}
use Rattle.std.specs.List.{list_all}

abbrev pub is_digit : ℕ → Bool
is_digit b = nat_le 48 b && nat_le b 57

-- the value of decimal digits that stand behind others of a value
abbrev pub value_behind : ℕ → List ℕ → ℕ
value_behind before [] = before
value_behind before (d ∷ ds) = value_behind (10 * before + (d - 48)) ds

-- the value of decimal digits, the highest first
abbrev pub value_of : List ℕ → ℕ
value_of digits = value_behind 0 digits

-- 1 to 10 decimal digits
abbrev pub is_number : List ℕ → Bool
is_number word = nat_lt 0 (length word) && nat_le (length word) 10 && list_all is_digit word

-- the number that a word of 1 to 10 digits is, where it is at most so great
abbrev pub number_up_to : ℕ → List ℕ → Option ℕ
number_up_to most word = if is_number word && nat_le (value_of word) most then Some (value_of word) else None

-- the number of a word, below 2 ^ 32
abbrev pub decimal_of : List ℕ → Option ℕ
decimal_of word = number_up_to (2 ^ 32 - 1) word
