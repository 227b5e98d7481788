-- Blocks, each at a place of its own: two buffers in three copies on fourteen columns. Block 0 is the corridor of MINI-B;
-- in each further one copy 0 is mirrored, so that v stands left of u in all its copies. Blocks are numbered from 0.
-- Sixteen stand side by side in a band; a band is two rows high and a block takes fifteen columns, the last of which has
-- no tile. (Our own.)
use Rattle.std.specs.Prelude.{ℕ, zero, suc, ◌+◌, ◌*◌, ◌/◌, ◌%◌, List, [], ◌∷◌, ◌++◌, map, flat_map, Some, codes, if◌then◌else◌, ◌==◌}
use Rattle.std.specs.Fmt.{decimal}
use Rattle.records.specs.Grid.{Tile}
use Rattle.records.specs.Config.{TileText}
use Rattle.mini_b.specs.Corridor.{input_text, output_with, buffer_text, arcs_text, shows_table, shows_track, from_west, drives_u, drives_v, drives_v_passes_u, drives_u_passes_v, reads_v}

-- the numbers below another one, in order
abbrev pub numbers_below : ℕ → List ℕ
numbers_below zero = []
numbers_below (suc n) = numbers_below n ++ n ∷ []

-- the row and the column on the device of a row and a column of a block
abbrev pub row_of : ℕ → ℕ → ℕ
row_of block row = row + 2 * (block / 16)

abbrev pub column_of : ℕ → ℕ → ℕ
column_of block column = column + 15 * (block % 16)

abbrev pub tile_name : ℕ → ℕ → ℕ → List ℕ → List ℕ
tile_name block row column kind = codes "R" ++ decimal (row_of block row) ++ codes "C" ++ decimal (column_of block column) ++ codes ":" ++ kind

-- the tile of a pad and that of a slice in a column
abbrev pub pad_tile : ℕ → ℕ → List ℕ
pad_tile block column = tile_name block 0 column (codes "SIO")

abbrev pub slice_tile : ℕ → ℕ → List ℕ
slice_tile block column = tile_name block 1 column (codes "SLC")

-- ---- the grid

abbrev pub grid_tile : ℕ → ℕ → ℕ → List ℕ → ℕ → Tile
grid_tile block row column kind cols = record {
  name = tile_name block row column kind;
  kind = kind;
  place = Some (row_of block row, column_of block column);
  cols = cols;
  rows = 8;
  start_frame = 16 * column_of block column;
  start_bit = 8 * row_of block row;
}

abbrev pub columns : List ℕ
columns = map suc (numbers_below 14)

-- the tiles of a block: a pad and a slice in each of its columns
abbrev pub block_tiles : ℕ → List Tile
block_tiles block = flat_map (λ column. grid_tile block 0 column (codes "SIO") 2 ∷ grid_tile block 1 column (codes "SLC") 4 ∷ []) columns

-- ---- the text

-- the pads of a copy, which begins behind a column: two inputs and two outputs
abbrev pub copy_pads : ℕ → ℕ → List TileText
copy_pads block behind =
    input_text (pad_tile block (behind + 1))
    ∷ input_text (pad_tile block (behind + 2))
    ∷ output_with (pad_tile block (behind + 3)) shows_table
    ∷ output_with (pad_tile block (behind + 4)) shows_track
    ∷ []

-- the slices of a copy in which v stands left of u
abbrev pub v_left : ℕ → ℕ → List TileText
v_left block behind =
    buffer_text (slice_tile block (behind + 1)) drives_u
    ∷ buffer_text (slice_tile block (behind + 2)) drives_v_passes_u
    ∷ buffer_text (slice_tile block (behind + 3)) reads_v
    ∷ arcs_text (slice_tile block (behind + 4)) from_west
    ∷ []

-- the slices of a copy in which u stands left of v
abbrev pub u_left : ℕ → ℕ → List TileText
u_left block behind =
    buffer_text (slice_tile block (behind + 1)) drives_v
    ∷ buffer_text (slice_tile block (behind + 2)) drives_u_passes_v
    ∷ buffer_text (slice_tile block (behind + 3)) reads_v
    ∷ arcs_text (slice_tile block (behind + 4)) from_west
    ∷ []

-- In block 0 alone u stands left of v in copy 0, so that the track that v needs is taken first.
abbrev pub first_slices : ℕ → List TileText
first_slices block = if block == 0 then u_left block 0 else v_left block 0

-- the sections of a block
abbrev pub block_texts : ℕ → List TileText
block_texts block =
    copy_pads block 0 ++ copy_pads block 5 ++ copy_pads block 10 ++ first_slices block ++ v_left block 5 ++ v_left block 10
