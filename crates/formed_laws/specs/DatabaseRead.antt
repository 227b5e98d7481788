-- Databases as their reader leaves them. (Our own.)
use Rattle.std.specs.Prelude.{◌≡◌, ℕ, List, map, Ok}
use Rattle.words.specs.Members.{In}
use Rattle.words.specs.Twice.{HasNoneTwice}
use Rattle.records.specs.Database.{Mux, EnumSetting, TileDb}
use Rattle.fabric.specs.Device.{TypeDb, Device}
use Rattle.grammars.specs.BitsDb.{database_of}
use Rattle.formed_laws.specs.Readers.{IsReadGrid, IsReadProfile}

-- some bytes are read as this database
abbrev pub IsReadDatabase : TileDb → Type 0
IsReadDatabase db = (bytes : List ℕ) × (database_of bytes ≡ Ok db)

-- the grid, the database of each type and the profile of a device are read
pub record IsReadDevice (device : Device) : Type 0 where
  pub grid : IsReadGrid device.grid
  pub types : (t : TypeDb) → In device.types t → IsReadDatabase t.db
  pub profile : IsReadProfile device.profile

-- no two muxes have one sink, no two words or enums one name, no two arcs of a mux one source, and no two options of an
-- enum one value
pub record HasNamesOnce (db : TileDb) : Type 0 where
  pub sinks : HasNoneTwice (map (λ m. m.sink) db.muxes)
  pub sources : (m : Mux) → In db.muxes m → HasNoneTwice (map (λ a. a.source) m.arcs)
  pub words : HasNoneTwice (map (λ w. w.name) db.words)
  pub enums : HasNoneTwice (map (λ e. e.name) db.enums)
  pub values : (e : EnumSetting) → In db.enums e → HasNoneTwice (map (λ o. o.value) e.options)
