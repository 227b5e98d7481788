-- Databases by the names of tile types. (Our own.)
use Rattle.std.specs.Prelude.{ℕ, List, Option, find, map}
use Rattle.std.specs.Str.{bytes_eq}
use Rattle.records.specs.Database.{TileDb}
use Rattle.fabric.specs.InOrder.{IsRising}
use Rattle.fabric.specs.Wires.{name_cmp}
use Rattle.fabric.specs.Device.{TypeDb}

-- the database of the type of a name, with the name
abbrev pub type_named : List TypeDb → List ℕ → Option TypeDb
type_named types kind = find (λ t. bytes_eq t.kind kind) types

-- a name and a database
abbrev pub type_db : List ℕ × TileDb → TypeDb
type_db entry = record { kind = entry.0; db = entry.1 }

-- in byte order of names, each name once
abbrev pub AreInNameOrder : List TypeDb → Type 0
AreInNameOrder types = IsRising name_cmp (map (λ t. t.kind) types)
