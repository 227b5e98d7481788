-- The named cells of a block: slices u, v and w, input pads i and j, output pads o and p, each in three copies. (Our
-- own.)
use Rattle.std.specs.Prelude.{ℕ, List, [], ◌∷◌, ◌++◌, codes, if◌then◌else◌, ◌==◌}
use Rattle.std.specs.Fmt.{decimal}
use Rattle.records.specs.Side.{Domain, D0, D1, D2, Placed, Triple}
use Rattle.made_designs.specs.Blocks.{pad_tile, slice_tile}

-- a cell goes by its letter, the number of its copy, and that of its block: `u0_5`
abbrev pub cell_name : ℕ → List ℕ → List ℕ → List ℕ
cell_name block letter copy = letter ++ copy ++ codes "_" ++ decimal block

abbrev pub triple_named : ℕ → List ℕ → Triple
triple_named block letter = record { first = cell_name block letter (codes "0"); second = cell_name block letter (codes "1"); third = cell_name block letter (codes "2") }

abbrev pub placed_at : List ℕ → List ℕ → List ℕ → Domain → Placed
placed_at name tile kind domain = record { name = name; tile = tile; kind = kind; domain = domain }

-- the three copies of a slice, and those of a pad, by the columns in which they stand
abbrev pub three_slices : ℕ → List ℕ → ℕ → ℕ → ℕ → List Placed
three_slices block letter first second third =
    placed_at (cell_name block letter (codes "0")) (slice_tile block first) (codes "S1") D0
    ∷ placed_at (cell_name block letter (codes "1")) (slice_tile block second) (codes "S1") D1
    ∷ placed_at (cell_name block letter (codes "2")) (slice_tile block third) (codes "S1") D2
    ∷ []

abbrev pub three_pads : ℕ → List ℕ → ℕ → ℕ → ℕ → List Placed
three_pads block letter first second third =
    placed_at (cell_name block letter (codes "0")) (pad_tile block first) (codes "P1") D0
    ∷ placed_at (cell_name block letter (codes "1")) (pad_tile block second) (codes "P1") D1
    ∷ placed_at (cell_name block letter (codes "2")) (pad_tile block third) (codes "P1") D2
    ∷ []

-- the columns of u and of v in copy 0
abbrev pub u_column : ℕ → ℕ
u_column block = if block == 0 then 1 else 2

abbrev pub v_column : ℕ → ℕ
v_column block = if block == 0 then 2 else 1

abbrev pub block_slices : ℕ → List Placed
block_slices block =
    three_slices block (codes "u") (u_column block) 7 12
    ++ three_slices block (codes "v") (v_column block) 6 11
    ++ three_slices block (codes "w") 3 8 13

-- pad i stands above u, j above v, o above w and p in the column behind
abbrev pub block_pads : ℕ → List Placed
block_pads block =
    three_pads block (codes "i") (u_column block) 7 12
    ++ three_pads block (codes "j") (v_column block) 6 11
    ++ three_pads block (codes "o") 3 8 13
    ++ three_pads block (codes "p") 4 9 14
