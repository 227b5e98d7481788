-- What stands before a path of a net is added.
use Rattle.words.specs.Members.{In}
use Rattle.patterns.specs.Bits.{DeviceBit}
use Rattle.links.specs.Links.{IsClean}
use Rattle.fabric.specs.Device.{Device}
use Rattle.fabric.specs.GraphOf.{IsGraph}
use Rattle.circuit.specs.Cells.{SliceCell, PadCell}
use Rattle.circuit.specs.Parts.{sources}
use Rattle.circuit.specs.WellFormed.{OutputsApart}
use Rattle.upset.specs.Configured.{Configured, circuit_of}
use Rattle.repair.specs.Plain.{setting_bits}
use Rattle.repair.specs.Turns.{Turn, routing}

-- the bits of the named cells are bits of words and enums
pub record BitsAreSettings (k : Configured) : Type 0 where
  pub slices : (s : SliceCell) → In k.cells.slices s → (b : DeviceBit) → In s.bits b → In (setting_bits k.graph) b
  pub pads : (p : PadCell) → In k.cells.pads p → (b : DeviceBit) → In p.bits b → In (setting_bits k.graph) b

-- The graph is the device's, the routing is clean, each output is that of one part, and a cell's bits are those of
-- its settings.
pub record IsReady (device : Device) (k : Configured) : Type 0 where
  pub graph : IsGraph device k.graph
  pub clean : IsClean (routing k)
  pub outputs : OutputsApart (circuit_of k)
  pub settings : BitsAreSettings k

-- the same for a turn, whose net is the output of a named part
pub record IsReadyTurn (device : Device) (t : Turn) : Type 0 where
  pub ready : IsReady device t.now
  pub net : In (sources t.now.cells) t.net
