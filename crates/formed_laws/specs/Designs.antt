-- A design that is read. (Our own.)
use Rattle.std.specs.Prelude.{◌≡◌, Ok}
use Rattle.words.specs.Twice.{HasNoneTwice}
use Rattle.fabric.specs.Device.{Device}
use Rattle.fabric.specs.Graph.{Graph}
use Rattle.fabric.specs.GraphOf.{outputs_of, IsGraph}
use Rattle.cells.specs.CellsOf.{cells_of}
use Rattle.upset.specs.Configured.{Configured}
use Rattle.formed_laws.specs.SideRead.{IsApart}
use Rattle.formed_laws.specs.ProfileRead.{IsFit}
use Rattle.formed_laws.specs.Readers.{IsReadProfile, IsReadSide}

-- no wire is the output of two tables, registers or pads, at one site or at two
abbrev pub NoOverlap : Device → Graph → Type 0
NoOverlap device g = HasNoneTwice (outputs_of device g.wires)

-- The profile and the side file are read, the graph is the device's and no outputs overlap, and the cells are those of
-- the image.
pub record IsReadDesign (device : Device) (k : Configured) : Type 0 where
  pub profile : IsReadProfile device.profile
  pub side : IsReadSide k.side
  pub graph : IsGraph device k.graph
  pub outputs : NoOverlap device k.graph
  pub cells : cells_of k.graph device.profile k.image k.side ≡ Ok k.cells

-- The same with what is used of a profile and a side file that are read: so a side file may also be one whose slices
-- were moved.
pub record IsFitDesign (device : Device) (k : Configured) : Type 0 where
  pub profile : IsFit device.profile
  pub side : IsApart k.side
  pub graph : IsGraph device k.graph
  pub outputs : NoOverlap device k.graph
  pub cells : cells_of k.graph device.profile k.image k.side ≡ Ok k.cells
