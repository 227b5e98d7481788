-- All checks of a design in their order, the first that fails, and what is accepted. (Our own.)
use Rattle.std.specs.Prelude.{◌≡◌, [], Ok, Err}
use Rattle.records.specs.Side.{Side}
use Rattle.fabric.specs.Graph.{Graph}
use Rattle.fabric.specs.GraphOf.{IsGraph}
use Rattle.fabric.specs.Image.{image_of}
use Rattle.circuit.specs.Cells.{Cells}
use Rattle.circuit.specs.Circuits.{Circuit}
use Rattle.cells.specs.CellsOf.{cells_of}
use Rattle.upset.specs.Configured.{Configured, circuit_of}
use Rattle.answers.specs.Refusals.{Refusal, NoOutputs}
use Rattle.commands.specs.Commands.{Inputs}
use Rattle.design_files.specs.Parsed.{Files}
use Rattle.design_files.specs.Designs.{Design, design_of}
use Rattle.design_checks.specs.Checks.{Passes, ◌before◌, Computed}
use Rattle.design_checks.specs.GraphChecks.{graph_size_refusal, Overlap}
use Rattle.design_checks.specs.LineChecks.{line_refusal}
use Rattle.design_checks.specs.RoutingChecks.{ArcsDiffer, AreContested}
use Rattle.design_checks.specs.CellChecks.{cell_refusal}
use Rattle.design_checks.specs.PinChecks.{SourceUnnamed, TablesLoop, PinsOpen, ClocksAsData, RegistersUnclocked, PinsForeign}
use Rattle.design_checks.specs.MaskChecks.{TablesFail}
use Rattle.design_checks.specs.CopyChecks.{CopiesUnlike}

-- 36: there is no output triple
pub data OutputsMissing (side : Side) : Refusal → Type 0 where
  none : side.outputs ≡ [] → OutputsMissing side NoOutputs

-- the checks of a graph: its limits, and outputs that stand twice
abbrev pub GraphRefused : Design → Graph → Refusal → Type 0
GraphRefused design g = Computed (graph_size_refusal g) before Overlap design.device g

-- the checks of the text over the graph: lines, arcs that differ, contested wires, cells
abbrev pub TextRefused : Design → Graph → Refusal → Type 0
TextRefused design g =
    Computed (line_refusal g design.config)
    before ArcsDiffer g (image_of g design.config) design.config
    before AreContested g (image_of g design.config)
    before Computed (cell_refusal g design.device.profile (image_of g design.config) design.side)

-- the rules that a circuit of triplicated parts keeps, as checks: those but the first, which the side file's reader sees to
abbrev pub CircuitRefused : Graph → Circuit → Refusal → Type 0
CircuitRefused g c =
    SourceUnnamed g c before TablesLoop c before PinsOpen c before ClocksAsData c before RegistersUnclocked c before PinsForeign c
    before TablesFail c before CopiesUnlike c before OutputsMissing c.side

-- a design with its graph, its image and the cells there
abbrev pub configured_as : Design → Graph → Cells → Configured
configured_as design g cells = record { graph = g; image = image_of g design.config; cells = cells; side = design.side }

-- the checks on the circuit of a design whose cells are there
pub data CellsRefused (design : Design) (g : Graph) : Refusal → Type 0 where
  in_circuit : (cells : Cells) {r : Refusal} → cells_of g design.device.profile (image_of g design.config) design.side ≡ Ok cells
      → CircuitRefused g (circuit_of (configured_as design g cells)) r → CellsRefused design g r

-- all checks of a design that is read, in their order
abbrev pub DesignRefused : Design → Graph → Refusal → Type 0
DesignRefused design g = GraphRefused design g before TextRefused design g before CellsRefused design g

-- The first refusal of the inputs: of the first file that has a fault, or else of the first check that fails.
pub data IsFirstRefusal (files : Files) (inputs : Inputs) : Refusal → Type 0 where
  of_files : {r : Refusal} → design_of files inputs ≡ Err r → IsFirstRefusal files inputs r
  of_design : (design : Design) (g : Graph) {r : Refusal} → design_of files inputs ≡ Ok design → IsGraph design.device g → DesignRefused design g r → IsFirstRefusal files inputs r

-- The inputs are accepted: their files give a design, and none of its checks fails.
pub record IsAccepted (files : Files) (inputs : Inputs) (design : Design) (g : Graph) (cells : Cells) : Type 0 where
  pub read : design_of files inputs ≡ Ok design
  pub graph : IsGraph design.device g
  pub cells_there : cells_of g design.device.profile (image_of g design.config) design.side ≡ Ok cells
  pub passes : Passes (DesignRefused design g)

-- a design that is accepted, with its graph and its cells
pub record Accepted (files : Files) (inputs : Inputs) : Type 0 where
  pub design : Design
  pub graph : Graph
  pub cells : Cells
  pub is : IsAccepted files inputs design graph cells

-- what it configures
abbrev pub its_configured : {files : Files} {inputs : Inputs} → Accepted files inputs → Configured
its_configured a = configured_as a.design a.graph a.cells
