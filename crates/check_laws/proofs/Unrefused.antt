-- Inputs of which nothing is refused are accepted.
use Rattle.std.proofs.Common.{◌≡◌, Option, Some, None, option_map, refl}
use Rattle.std.specs.Prelude.{Result, Ok, Err}
use Rattle.fabric.specs.Graph.{Graph}
use Rattle.fabric.specs.Image.{image_of}
use Rattle.circuit.specs.Cells.{Cells}
use Rattle.cells.specs.Faults.{CellFault, cell_fault}
use Rattle.cells.specs.CellsOf.{cells_of}
use Rattle.answers.specs.Refusals.{Refusal}
use Rattle.commands.specs.Commands.{Inputs}
use Rattle.design_files.specs.Parsed.{Files}
use Rattle.design_files.specs.Designs.{Design, design_of}
use Rattle.design_checks.specs.Checks.{Passes, ◌before◌, Computed}
use Rattle.design_checks.specs.LineChecks.{line_refusal}
use Rattle.design_checks.specs.RoutingChecks.{ArcsDiffer, AreContested}
use Rattle.design_checks.specs.CellChecks.{refusal_of_cells, cell_refusal}
use Rattle.design_checks.specs.DesignChecks.{GraphRefused, TextRefused, CellsRefused, DesignRefused, IsFirstRefusal, of_files, of_design, IsAccepted}
use Rattle.fabric_laws.specs.PlainGraph.{graph_of}
use Rattle.fabric_laws.proofs.Graphs.{has_graph}
use Rattle.cells_laws.proofs.Faults.{none_accepted, accepted_cells}
use Rattle.check_laws.proofs.Passing.{first_passes, second_passes}

nothing : (o : Option Refusal) → Passes (Computed o) → o ≡ None
nothing None pass = refl
nothing (Some r) pass = absurd (pass r refl)

not_mapped : (o : Option CellFault) → option_map refusal_of_cells o ≡ None → o ≡ None
not_mapped None e = refl
not_mapped (Some f) e = absurd (let wrong : ⊥ = cc in wrong)

-- the cells of a design that passes its checks are there
module _ (design : Design) (g : Graph) (passes : Passes (DesignRefused design g)) where
  Behind : Refusal → Type 0
  Behind = AreContested g (image_of g design.config) before Computed (cell_refusal g design.device.profile (image_of g design.config) design.side)

  text_passes : Passes (TextRefused design g)
  text_passes = first_passes (TextRefused design g) (CellsRefused design g) (second_passes (GraphRefused design g) (TextRefused design g before CellsRefused design g) passes)

  cells_pass : Passes (Computed (cell_refusal g design.device.profile (image_of g design.config) design.side))
  unfolding Behind
  cells_pass =
      second_passes (AreContested g (image_of g design.config)) (Computed (cell_refusal g design.device.profile (image_of g design.config) design.side))
      (second_passes (ArcsDiffer g (image_of g design.config) design.config) Behind
      (second_passes (Computed (line_refusal g design.config)) (ArcsDiffer g (image_of g design.config) design.config before Behind) text_passes))

  no_fault : cell_fault g design.device.profile (image_of g design.config) design.side ≡ None
  no_fault = not_mapped (cell_fault g design.device.profile (image_of g design.config) design.side) (nothing (cell_refusal g design.device.profile (image_of g design.config) design.side) cells_pass)

  cells_there : (cells : Cells) × (cells_of g design.device.profile (image_of g design.config) design.side ≡ Ok cells)
  cells_there = (_, accepted_cells g design.device.profile (image_of g design.config) design.side (none_accepted g design.device.profile (image_of g design.config) design.side no_fault))

module _ (files : Files) (inputs : Inputs) (none : (r : Refusal) → IsFirstRefusal files inputs r → ⊥) where
  Accepted : Type 0
  Accepted = (design : Design) × ((g : Graph) × ((cells : Cells) × IsAccepted files inputs design g cells))

  accepted_by : (o : Result Design Refusal) → design_of files inputs ≡ o → Accepted
  unfolding Accepted
  accepted_by (Err r) e = absurd (none r (of_files e))
  accepted_by (Ok design) e =
      let passes : Passes (DesignRefused design (graph_of design.device)) = λ r h. none r (of_design design (graph_of design.device) e (has_graph design.device) h) in
      let there = cells_there design (graph_of design.device) passes in
      (design, (graph_of design.device, (there.0, record { read = e; graph = has_graph design.device; cells_there = there.1; passes = passes })))

  pub unrefused : (design : Design) × ((g : Graph) × ((cells : Cells) × IsAccepted files inputs design g cells))
  unfolding Accepted
  unrefused = accepted_by (design_of files inputs) refl
