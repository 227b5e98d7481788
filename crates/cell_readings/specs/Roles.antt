-- The settings of a cell as they are read for its name, tile and kind. (Our own.)
use Rattle.std.specs.Prelude.{ℕ, false, List, ◌++◌, map, flat_map}
use Rattle.std.specs.Option.{option_map_or}
use Rattle.patterns.specs.Bits.{Bits}
use Rattle.records.specs.Profile.{Choice, SliceKind}
use Rattle.fabric.specs.Graph.{Graph}
use Rattle.circuit.specs.Cells.{Role}
use Rattle.cells.specs.Takes.{take_at, suits}
use Rattle.cells.specs.Readings.{Reading, choice_reading, require_reading, table_reading, register_readings}

-- the mode of a pad in a tile, where it must be that of its role
abbrev pub role_reading : Graph → Bits → List ℕ → Role → ℕ → Choice → Reading
role_reading g image cell role tile mode = record (choice_reading g image cell tile mode) { modelled = option_map_or (suits role) (take_at g image tile mode) false }

-- the settings of a slice of a kind in a tile
abbrev pub kind_readings : Graph → Bits → List ℕ → ℕ → SliceKind → List Reading
kind_readings g image cell tile kind =
    map (require_reading g image cell tile) kind.require ++ map (table_reading g image cell tile) kind.tables ++ flat_map (register_readings g image cell tile) kind.registers
