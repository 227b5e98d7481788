-- The toggle with a fault, and its circuit. (Our own.)
use Rattle.std.specs.Prelude.{ℕ, List, [], ◌∷◌, map, codes}
use Rattle.records.specs.Config.{Config}
use Rattle.fabric.specs.Graph.{Graph}
use Rattle.circuit.specs.Cells.{SliceCell, Cells}
use Rattle.circuit.specs.Circuits.{Circuit}
use Rattle.upset.specs.Configured.{circuit_of}
use Rattle.design_files.specs.Designs.{Design}
use Rattle.design_checks.specs.DesignChecks.{configured_as}
use Rattle.mini.specs.MiniA.{mini_a}
use Rattle.mini.specs.Toggle.{line, toggle, crossed, toggle_side}
use Rattle.mini.specs.ToggleCells.{toggle_cells}
use Rattle.check_examples.specs.Changed.{with_word, with_arc, without_arc}

-- a text with the side file of the toggle
abbrev pub on_toggle : Config → Design
on_toggle config = record { config = config; device = mini_a; side = toggle_side }

-- the circuit of a text with the toggle's side file and these cells
abbrev pub circuit_with : Graph → Config → Cells → Circuit
circuit_with g config cells = circuit_of (configured_as (on_toggle config) g cells)

-- the word of the tables of a slice
abbrev pub slice_with_word : ℕ → SliceCell → SliceCell
slice_with_word word s = record s { tables = map (λ t. record { word = word; pins = t.pins; out = t.out }) s.tables }

-- the cells of the toggle with another word in the first slice
abbrev pub first_with_word : ℕ → List SliceCell → List SliceCell
first_with_word word [] = []
first_with_word word (s ∷ ss) = slice_with_word word s ∷ ss

abbrev pub cells_with_word : Graph → ℕ → Cells
cells_with_word g word = record (toggle_cells g) { slices = first_with_word word (toggle_cells g).slices }

-- the word of a0 doesn't mask copy 1
abbrev pub unmasked : Config
unmasked = with_word (codes "R1C1:MLC") (codes "0001111100011111") toggle

-- the word of a0 reads pin D
abbrev pub reading_d : Config
reading_d = with_word (codes "R1C1:MLC") (codes "1001011100010111") toggle

-- the register of a0 has no clock
abbrev pub unclocked : Config
unclocked = without_arc (codes "R1C1:MLC") (codes "CK") toggle

-- pin A of a2 has a second arc
abbrev pub second_arc : Config
second_arc = with_arc (codes "R1C3:MLC") (line (codes "A") (codes "H0")) crossed

-- and the word of a0 reads pin D
abbrev pub second_arc_reading_d : Config
second_arc_reading_d = with_word (codes "R1C1:MLC") (codes "1001011100010111") second_arc
