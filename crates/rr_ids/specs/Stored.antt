-- The bytes of a name, wherever they stand.
use Rattle.std.specs.Prelude.{ℕ, List}
use Rattle.rr_ids.specs.declared.stored.Stored.{Stored}
use Rattle.rr_ids.specs.declared.stored.Stored.TheVariants.{Short, Long}

abbrev pub stored_bytes : Stored → List ℕ
stored_bytes (Short bytes) = bytes
stored_bytes (Long bytes) = bytes.items
