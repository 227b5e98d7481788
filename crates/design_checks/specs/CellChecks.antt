-- What is refused of the cells of an image. (Our own.)
use Rattle.std.specs.Prelude.{Option, option_map}
use Rattle.patterns.specs.Bits.{Bits}
use Rattle.records.specs.Profile.{Profile}
use Rattle.records.specs.Side.{Side}
use Rattle.fabric.specs.Graph.{Graph}
use Rattle.cells.specs.Faults as cells
use Rattle.answers.specs.Refusals.{Refusal, UnknownSite, ShapeDiffers, Unmodelled, UnnamedPad}

abbrev pub refusal_of_cells : cells.CellFault → Refusal
refusal_of_cells (cells.UnknownSite name) = UnknownSite name
refusal_of_cells (cells.ShapeDiffers name) = ShapeDiffers name
refusal_of_cells (cells.Unmodelled cell setting value) = Unmodelled cell setting value
refusal_of_cells (cells.UnnamedPad tile kind) = UnnamedPad tile kind

-- 24 to 27: the first fault of the cells
abbrev pub cell_refusal : Graph → Profile → Bits → Side → Option Refusal
cell_refusal g profile image side = option_map refusal_of_cells (cells.cell_fault g profile image side)
