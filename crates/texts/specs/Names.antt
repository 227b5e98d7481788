-- Names. (Our own.)
use Rattle.std.specs.Prelude.{ℕ, Bool, List, length, nat_le, nat_lt, ◌&&◌}
use Rattle.std.specs.List.{list_all}

abbrev pub is_name_byte : ℕ → Bool
is_name_byte b = nat_le 0x21 b && nat_le b 0x7E

-- a name has 1 to 255 bytes, each from 0x21 to 0x7E
abbrev pub is_name : List ℕ → Bool
is_name bytes = nat_lt 0 (length bytes) && nat_le (length bytes) 255 && list_all is_name_byte bytes
