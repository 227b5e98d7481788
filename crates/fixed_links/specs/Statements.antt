-- What is proved of links and cell outputs by slots.
use Rattle.std.specs.Prelude.{◌≡◌, List}
use Rattle.records.specs.Grid.{Tile}
use Rattle.fabric.specs.Wires.{Wire}
use Rattle.fabric.specs.Device.{Device}
use Rattle.slot_wires.specs.Numbers.{slot_numbers}
use Rattle.fixed_links.specs.Slots.{links_in, outputs_in, type_links}
use Rattle.fixed_links.specs.Tiles.{tile_fixed, tile_outputs}

-- The links of a tile by the slots of its type are those of its fixed connections and joins.
abbrev pub LinksAreOfTile : Type 0
LinksAreOfTile = (device : Device) (wires : List Wire) (tile : Tile) → links_in (slot_numbers device wires tile) (type_links device tile).fixed ≡ tile_fixed device wires tile

-- The outputs of a tile by the slots of its type are the wires of its cell outputs.
abbrev pub OutputsAreOfTile : Type 0
OutputsAreOfTile = (device : Device) (wires : List Wire) (tile : Tile) → outputs_in (slot_numbers device wires tile) (type_links device tile).outputs ≡ tile_outputs device wires tile
