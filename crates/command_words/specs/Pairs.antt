-- An option among words.
use Rattle.std.specs.Prelude.{ℕ, ◌+◌, List, option_map, slice_get, unwrap_or, [], String, string_bytes}
use Rattle.std.specs.declared.alloc.Global.{Global}
use Rattle.commands.specs.Options.{Given}

-- the option whose name stands at a place, the first word being word 2
abbrev pub option_in : List (String Global) → ℕ → Given
option_in words place = record { number = place + 2; name = unwrap_or (option_map string_bytes (slice_get words place)) []; value = option_map string_bytes (slice_get words (place + 1)) }
