-- The design of a number of blocks, on a device that they make. (Our own.)
use Rattle.std.specs.Prelude.{ℕ, [], ◌∷◌, flat_map, codes}
use Rattle.words.specs.Ordered.{in_order}
use Rattle.records.specs.Grid.{Grid}
use Rattle.records.specs.Config.{Config}
use Rattle.records.specs.Side.{Side}
use Rattle.fabric.specs.Device.{Device}
use Rattle.json_forms.specs.Grid.{grid_with}
use Rattle.design_files.specs.Designs.{Design}
use Rattle.mini_b.specs.MiniB.{sio, slc, mini_profile}
use Rattle.made_designs.specs.Blocks.{numbers_below, block_tiles, block_texts}
use Rattle.made_designs.specs.BlockSides.{triple_named, block_slices, block_pads}

abbrev pub made_grid : ℕ → Grid
made_grid blocks = grid_with (in_order (λ t. t.name) (flat_map block_tiles (numbers_below blocks)))

abbrev pub made_config : ℕ → Config
made_config blocks = record { device = codes "MINI-RUN"; heads = []; tiles = in_order (λ t. t.tile) (flat_map block_texts (numbers_below blocks)) }

-- the lists of a side file hold the entries of block 0 first, then those of block 1, and so on
abbrev pub made_side : ℕ → Side
made_side blocks = record {
  slices = flat_map block_slices (numbers_below blocks);
  pads = flat_map block_pads (numbers_below blocks);
  triples = flat_map (λ block. triple_named block (codes "u") ∷ triple_named block (codes "v") ∷ triple_named block (codes "w") ∷ []) (numbers_below blocks);
  inputs = flat_map (λ block. triple_named block (codes "i") ∷ triple_named block (codes "j") ∷ []) (numbers_below blocks);
  outputs = flat_map (λ block. triple_named block (codes "o") ∷ triple_named block (codes "p") ∷ []) (numbers_below blocks);
  clocks = [];
  voters = [];
}

abbrev pub made_device : ℕ → Device
made_device blocks = record {
  grid = made_grid blocks;
  types = record { kind = codes "SIO"; db = sio } ∷ record { kind = codes "SLC"; db = slc } ∷ [];
  profile = mini_profile;
}

-- the design of blocks
abbrev pub made_design : ℕ → Design
made_design blocks = record { config = made_config blocks; device = made_device blocks; side = made_side blocks }
