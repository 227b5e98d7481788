-- What a device names. (Our own.)
use Rattle.std.specs.Prelude.{◌<◌, List, length, flat_map}
use Rattle.records.specs.Limits.{most_wires}
use Rattle.fabric.specs.InOrder.{InOrderOnce}
use Rattle.fabric.specs.Wires.{Wire, wire_cmp}
use Rattle.fabric.specs.Device.{Device}
use Rattle.fabric.specs.TileWires.{tile_wires}

-- the wires that the tiles of a device name, tile by tile
abbrev pub named_wires : Device → List Wire
named_wires device = flat_map (tile_wires device) device.grid.tiles

-- The wires of a device, in order and each once, are more than there are numbers. No device has two such lists, so
-- that with a bound on the wires in the other answer each answer excludes the other.
pub record NamesTooMany (device : Device) : Type 0 where
  pub wires : List Wire
  pub named : InOrderOnce wire_cmp (named_wires device) wires
  pub many : most_wires < length wires
