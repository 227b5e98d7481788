-- The cells of an image, and the circuit that it makes. (Our own.)
use Rattle.std.specs.Prelude.{◌≡◌, List, filter_map, Result, Ok, Err, Option, Some, None, option_map}
use Rattle.words.specs.Members.{In}
use Rattle.patterns.specs.Bits.{Bits}
use Rattle.records.specs.Profile.{SliceKind, PadKind, Profile}
use Rattle.records.specs.Side.{Placed, Side}
use Rattle.fabric.specs.Graph.{Graph}
use Rattle.fabric.specs.Links.{routing_of}
use Rattle.circuit.specs.Cells.{SliceCell, PadCell, Cells}
use Rattle.circuit.specs.Circuits.{Circuit}
use Rattle.cells.specs.Sites.{Site, slice_site, pad_site}
use Rattle.cells.specs.Resolved.{slice_cell, pad_cell}
use Rattle.cells.specs.Readings.{slices_of, pads_of}
use Rattle.cells.specs.Faults.{CellFault, cell_fault}

-- the slices and the pads of a side file, each at its site, in byte order of names
abbrev pub slice_cells : Graph → Profile → Bits → Side → List SliceCell
slice_cells g profile image side = filter_map (λ p. option_map (slice_cell g profile.rules image p) (slice_site g profile p)) (slices_of side)

abbrev pub pad_cells : Graph → Profile → Side → List PadCell
pad_cells g profile side = filter_map (λ p. option_map (pad_cell g profile.rules side p) (pad_site g profile p)) (pads_of side)

-- the slice of a placed slice of the side file at its site, and the pad of a placed pad
pub record IsSliceOf (g : Graph) (profile : Profile) (image : Bits) (side : Side) (c : SliceCell) : Type 0 where
  pub placed : Placed
  pub site : Site SliceKind
  pub listed : In side.slices placed
  pub stands : slice_site g profile placed ≡ Some site
  pub cell : slice_cell g profile.rules image placed site ≡ c

pub record IsPadOf (g : Graph) (profile : Profile) (side : Side) (c : PadCell) : Type 0 where
  pub placed : Placed
  pub site : Site PadKind
  pub listed : In side.pads placed
  pub stands : pad_site g profile placed ≡ Some site
  pub cell : pad_cell g profile.rules side placed site ≡ c

-- a value, unless there is a fault
abbrev pub unless : {X E : Type 0} → Option E → X → Result X E
unless None x = Ok x
unless (Some e) x = Err e

-- The cells of an image: the tables, registers and pads at the sites that the side file names, or the first fault.
abbrev pub cells_of : Graph → Profile → Bits → Side → Result Cells CellFault
cells_of g profile image side = unless (cell_fault g profile image side) (record { slices = slice_cells g profile image side; pads = pad_cells g profile side })

-- the circuit that an image makes of the cells that a side file names
pub record IsCircuitOf (g : Graph) (profile : Profile) (image : Bits) (side : Side) (c : Circuit) : Type 0 where
  pub routing : c.routing ≡ routing_of g image
  pub cells : cells_of g profile image side ≡ Ok c.cells
  pub same_side : c.side ≡ side
