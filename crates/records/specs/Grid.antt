-- The grid of a device, `tilegrid.json`, as its reader gives it. (After Project Trellis.)
use Rattle.std.specs.Prelude.{ℕ, List, Option}
use Rattle.patterns.specs.Bits.{DeviceBit}

-- A tile: its name, its type, its row and column where its name has them, its number of frames (`cols`) and
-- of bits in a frame (`rows`), and where its bits begin.
pub record Tile : Type 0 where
  pub name : List ℕ
  pub kind : List ℕ
  pub place : Option (ℕ × ℕ)
  pub cols : ℕ
  pub rows : ℕ
  pub start_frame : ℕ
  pub start_bit : ℕ

-- the tiles in byte order of their names; the height and width that hold all places
pub record Grid : Type 0 where
  pub tiles : List Tile
  pub height : ℕ
  pub width : ℕ

-- the device bit of the tile's bit F0B0
abbrev pub origin_of : Tile → DeviceBit
origin_of tile = record { frame = tile.start_frame; bit = tile.start_bit }
