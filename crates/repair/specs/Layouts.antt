-- A text over a device, and paths that are added to it one after the other.
use Rattle.std.specs.Prelude.{ℕ, List, [], ◌∷◌}
use Rattle.words.specs.Members.{In}
use Rattle.records.specs.Config.{Config}
use Rattle.records.specs.Side.{Side}
use Rattle.fabric.specs.Graph.{GraphArc, Graph}
use Rattle.fabric.specs.Image.{image_of}
use Rattle.circuit.specs.Cells.{Cells}
use Rattle.circuit.specs.Parts.{Source, sources}
use Rattle.circuit.specs.Circuits.{Circuit}
use Rattle.upset.specs.Configured.{Configured}
use Rattle.paths.specs.Paths.{HasNoSinkTwice}
use Rattle.repair.specs.Turns.{Turn}
use Rattle.repair.specs.Routes.{roads_for, IsRoute}
use Rattle.repair.specs.Lines.{with_arc_lines}

-- a configuration over a graph, the named cells of its image, and the side file that lists them
pub record Layout : Type 0 where
  pub graph : Graph
  pub config : Config
  pub cells : Cells
  pub side : Side

-- what the layout configures
abbrev pub configured : Layout → Configured
configured y = record { graph = y.graph; image = image_of y.graph y.config; cells = y.cells; side = y.side }

-- the layout with the lines of arcs; the cells stay
abbrev pub with_path : Layout → List GraphArc → Layout
with_path y path = record { graph = y.graph; config = with_arc_lines y.graph y.config path; cells = y.cells; side = y.side }

-- a net's turn over the layout
abbrev pub turn_over : Circuit → Layout → Source → Turn
turn_over read y net = record { read = read; config = y.config; now = configured y; net = net }

-- a path of a net to the wire of a pin
pub record NetPath : Type 0 where
  pub net : Source
  pub path : List GraphArc
  pub pin : ℕ

abbrev pub with_paths : Layout → List NetPath → Layout
with_paths y [] = y
with_paths y (p ∷ rest) = with_paths (with_path y p.path) rest

-- paths of named nets, each of arcs that are usable once those before it were added, and with no sink twice
abbrev pub ArePaths : Circuit → Layout → List NetPath → Type 0
ArePaths read y [] = Unit {0}
ArePaths read y (p ∷ rest) =
    In (sources y.cells) p.net × IsRoute (turn_over read y p.net) p.path p.pin × HasNoSinkTwice (roads_for (turn_over read y p.net)) p.path × ArePaths read (with_path y p.path) rest
