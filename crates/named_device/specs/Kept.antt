-- What is kept beside a device with its numbers, to look names up in it. (Our own.)
use Rattle.std.specs.Prelude.{◌≡◌, ℕ, List, [], map, Option, option_and_then, slice_get}
use Rattle.records.specs.Database.{TileDb}
use Rattle.records.specs.Grid.{Grid}
use Rattle.records.specs.Profile.{Rules}
use Rattle.fabric.specs.Device.{Device}
use Rattle.name_numbers.specs.Numbers.{each_once}
use Rattle.tile_types.specs.Types.{Types, types_of}
use Rattle.device_numbers.specs.Numbered.{Numbered}

-- of databases by types, that of the tile of a number
abbrev pub kept_at : List (Option TileDb) → Types → ℕ → Option TileDb
kept_at dbs types tile = option_and_then (λ n. option_and_then (λ db. db) (slice_get dbs n)) (slice_get types.tiles tile)

-- the database of each type of a device's tiles, in order of first use of the types
abbrev pub type_dbs : Device → List (Option TileDb)
type_dbs device = map (λ t. t.db) (types_of device (each_once [] (map (λ tile. tile.kind) device.grid.tiles)))

-- the rules of names of a device, its grid, and the database of each type
pub record IsNamed (n : Numbered) (rules : Rules) (grid : Grid) (dbs : List (Option TileDb)) : Type 0 where
  pub rules_are : rules ≡ n.device.profile.rules
  pub grid_is : grid ≡ n.device.grid
  pub dbs_are : dbs ≡ type_dbs n.device
