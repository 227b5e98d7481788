-- What a grid and databases as they are read always meet: nothing is named twice.
use Rattle.std.specs.Prelude.{◌≡◌}
use Rattle.words.specs.Members.{In}
use Rattle.words.specs.Twice.{NoTwo}
use Rattle.records.specs.Database.{Mux}
use Rattle.fabric.specs.Device.{TypeDb, Device}

-- no two tiles have one name, no two muxes of a tile type one sink, and no two arcs of a mux one source
pub record NamesOnce (device : Device) : Type 0 where
  pub tiles : NoTwo (λ t u. t.name ≡ u.name) device.grid.tiles
  pub sinks : (t : TypeDb) → In device.types t → NoTwo (λ m n. m.sink ≡ n.sink) t.db.muxes
  pub sources : (t : TypeDb) (m : Mux) → In device.types t → In t.db.muxes m → NoTwo (λ a b. a.source ≡ b.source) m.arcs
