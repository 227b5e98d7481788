-- The faults of cells at their sites, and the cells, in turn. (Our own.)
use Rattle.std.specs.Prelude.{List, map, Option}
use Rattle.words.specs.Firsts.{or_else}
use Rattle.patterns.specs.Bits.{Bits}
use Rattle.records.specs.Profile.{SliceKind, PadKind, Profile}
use Rattle.records.specs.Side.{Placed, Side}
use Rattle.fabric.specs.Graph.{Graph}
use Rattle.circuit.specs.Cells.{Cells}
use Rattle.cells.specs.Sites.{Site, unnamed_pads}
use Rattle.cells.specs.Resolved.{slice_cell, pad_cell}
use Rattle.cells.specs.Readings.{pad_reading, slice_readings, unnamed_reading}
use Rattle.cells.specs.Faults.{CellFault, value_fault, unnamed_fault}
use Rattle.cell_readings.specs.First.{first_of}

-- the first setting of slices that isn't modelled
abbrev pub slices_fault : Graph → Bits → List (Placed × Site SliceKind) → Option CellFault
slices_fault g image slices = first_of (λ q. first_of value_fault (slice_readings g image q.0 q.1)) slices

-- the first mode of named pads that isn't that of its role
abbrev pub pads_fault : Graph → Bits → Side → List (Placed × Site PadKind) → Option CellFault
pads_fault g image side pads = first_of (λ q. value_fault (pad_reading g image side q.0 q.1)) pads

-- the first mode of unnamed pads that isn't modelled
abbrev pub modes_fault : Graph → Bits → List (Site PadKind) → Option CellFault
modes_fault g image sites = first_of (λ s. value_fault (unnamed_reading g image s)) sites

-- the first fault of unnamed pads
abbrev pub unnamed_faults : Graph → Bits → List (Site PadKind) → Option CellFault
unnamed_faults g image sites = or_else (modes_fault g image sites) (first_of (unnamed_fault g image) sites)

-- the first fault of cells at their sites: of values, and of unnamed pads
abbrev pub faults_at : Graph → Profile → Bits → Side → List (Placed × Site SliceKind) → List (Placed × Site PadKind) → Option CellFault
faults_at g profile image side slices pads =
    or_else (slices_fault g image slices) (or_else (pads_fault g image side pads) (unnamed_faults g image (unnamed_pads g profile side)))

-- the cells at their sites
abbrev pub cells_at : Graph → Profile → Bits → Side → List (Placed × Site SliceKind) → List (Placed × Site PadKind) → Cells
cells_at g profile image side slices pads = record {
  slices = map (λ q. slice_cell g profile.rules image q.0 q.1) slices;
  pads = map (λ q. pad_cell g profile.rules side q.0 q.1) pads;
}
