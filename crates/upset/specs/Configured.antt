-- A circuit on a device.
use Rattle.patterns.specs.Bits.{Bits}
use Rattle.records.specs.Side.{Side}
use Rattle.fabric.specs.Graph.{Graph}
use Rattle.fabric.specs.Links.{routing_of}
use Rattle.circuit.specs.Cells.{Cells}
use Rattle.circuit.specs.Circuits.{Circuit}

-- a graph and the image that configures it, with the named cells of the image and the side file that lists them
pub record Configured : Type 0 where
  pub graph : Graph
  pub image : Bits
  pub cells : Cells
  pub side : Side

-- the circuit that the image makes
abbrev pub circuit_of : Configured → Circuit
circuit_of k = record { routing = routing_of k.graph k.image; cells = k.cells; side = k.side }
