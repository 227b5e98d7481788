-- The fixed connections and cell outputs of the tiles of a device. (Our own.)
use Rattle.std.specs.Prelude.{◌≡◌, ℕ, List, [], drop, map, filter_map, flat_map, slice_get}
use Rattle.std.specs.Option.{option_map_or}
use Rattle.records.specs.Grid.{Tile}
use Rattle.links.specs.Links.{Link}
use Rattle.fabric.specs.Wires.{Wire}
use Rattle.fabric.specs.Device.{Device, fixed_at, output_names}
use Rattle.fabric.specs.GraphOf.{number_in, link_in}
use Rattle.tile_types.specs.Types.{tile_of_kind}
use Rattle.device_numbers.specs.Numbered.{Numbered}
use Rattle.fixed_links.specs.Slots.{TypeLinks, type_links}

-- those of a tile
abbrev pub tile_fixed : Device → List Wire → Tile → List Link
tile_fixed device wires tile = filter_map (link_in wires device.profile.rules tile) (fixed_at device tile)

abbrev pub tile_outputs : Device → List Wire → Tile → List ℕ
tile_outputs device wires tile = filter_map (number_in wires device.profile.rules tile) (output_names device tile)

-- those of the tile of a number; none where there is no such tile
abbrev pub fixed_of_tile : Numbered → ℕ → List Link
fixed_of_tile n tile = option_map_or (tile_fixed n.device n.wires) (slice_get n.device.grid.tiles tile) []

abbrev pub outputs_of_tile : Numbered → ℕ → List ℕ
outputs_of_tile n tile = option_map_or (tile_outputs n.device n.wires) (slice_get n.device.grid.tiles tile) []

-- those of the tiles from a number on
abbrev pub fixed_from : Numbered → ℕ → List Link
fixed_from n tile = flat_map (tile_fixed n.device n.wires) (drop tile n.device.grid.tiles)

abbrev pub outputs_from : Numbered → ℕ → List ℕ
outputs_from n tile = flat_map (tile_outputs n.device n.wires) (drop tile n.device.grid.tiles)

-- those by slots of the types of these names
abbrev pub links_of_types : Device → List (List ℕ) → List TypeLinks
links_of_types device kinds = map (λ kind. type_links device (tile_of_kind kind)) kinds
