-- Configured circuits on MINI-A.
use Rattle.std.specs.Prelude.{ℕ, List, [], ◌∷◌, codes}
use Rattle.patterns.specs.Bits.{Bits}
use Rattle.records.specs.Config.{TileText, ArcLine, Config}
use Rattle.fabric.specs.Graph.{Graph}
use Rattle.fabric.specs.Image.{image_of}
use Rattle.upset.specs.Configured.{Configured}
use Rattle.upset.specs.Safe.{only}
use Rattle.mini.specs.Toggle.{line, toggle_side}
use Rattle.mini.specs.ToggleCells.{toggle_cells, toggle_slices}

-- a text that places the toggle's cells
abbrev pub with_toggle : Graph → Config → Configured
with_toggle g config = record { graph = g; image = image_of g config; cells = toggle_cells g; side = toggle_side }

abbrev pub section : List ℕ → ArcLine → TileText
section tile arc = record { tile = tile; line = 0; arcs = arc ∷ []; words = []; enums = []; unknowns = [] }

-- three arcs alone, which lead the register of copy 0 to the pad above that of copy 1
abbrev pub three_arcs : Config
three_arcs = record {
  device = codes "MINI-A";
  heads = [];
  tiles =
      section (codes "R0C2:MIO") (line (codes "PO") (codes "S1_H3"))
      ∷ section (codes "R1C1:MLC") (line (codes "H3") (codes "Q"))
      ∷ section (codes "R1C2:MLC") (line (codes "H3") (codes "W1_H3"))
      ∷ [];
}

-- the slices of the toggle, without pads
abbrev pub with_slices : Graph → Config → Configured
with_slices g config = record { graph = g; image = image_of g config; cells = record { slices = toggle_slices g; pads = [] }; side = toggle_side }

-- the flip of one device bit
abbrev pub flip : ℕ → ℕ → Bits
flip frame bit = only (record { frame = frame; bit = bit })
