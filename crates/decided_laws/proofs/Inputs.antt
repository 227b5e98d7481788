-- Inputs have a first refusal of their files, their graph or their text, or their circuit is read.
use Rattle.std.proofs.Common.{◌≡◌, ◌⊎◌, inl, inr, Option, Some, None, option_map, refl}
use Rattle.std.specs.Prelude.{Result, Ok, Err}
use Rattle.fabric.specs.Graph.{Graph}
use Rattle.fabric.specs.GraphOf.{IsGraph}
use Rattle.fabric.specs.Image.{image_of}
use Rattle.fabric_laws.specs.PlainGraph.{graph_of}
use Rattle.fabric_laws.proofs.Graphs.{has_graph}
use Rattle.circuit.specs.Cells.{Cells}
use Rattle.cells.specs.CellsOf.{cells_of}
use Rattle.cells.specs.Faults.{CellFault, cell_fault}
use Rattle.cells_laws.proofs.Faults.{none_accepted, accepted_cells}
use Rattle.answers.specs.Refusals.{Refusal}
use Rattle.commands.specs.Commands.{Inputs}
use Rattle.design_files.specs.Parsed.{Files}
use Rattle.design_files.specs.Designs.{Design, design_of}
use Rattle.design_checks.specs.Checks.{Passes, ◌before◌, Computed}
use Rattle.design_checks.specs.GraphChecks.{graph_size_refusal, Overlap}
use Rattle.design_checks.specs.LineChecks.{line_refusal}
use Rattle.design_checks.specs.RoutingChecks.{ArcsDiffer, AreContested}
use Rattle.design_checks.specs.CellChecks.{refusal_of_cells, cell_refusal}
use Rattle.design_checks.specs.DesignChecks.{GraphRefused, TextRefused, IsFirstRefusal, of_files, of_design}
use Rattle.check_laws.proofs.Passing.{second_passes}
use Rattle.decided_laws.specs.Statements.{IsDecided, IsCircuitRead}
use Rattle.decided_laws.proofs.Checks.{before_decided, computed_decided}
use Rattle.decided_laws.proofs.Routed.{overlap_decided, arcs_decided, contested_decided}

pub graph_decided : (design : Design) (g : Graph) → IsGraph design.device g → IsDecided (GraphRefused design g)
graph_decided design g is = before_decided (Computed (graph_size_refusal g)) (Overlap design.device g) (computed_decided (graph_size_refusal g)) (λ pass. overlap_decided design.device g is)

module _ (design : Design) (g : Graph) where
  abbrev Cellular : Refusal → Type 0
  Cellular = Computed (cell_refusal g design.device.profile (image_of g design.config) design.side)

  abbrev Driven : Refusal → Type 0
  Driven = AreContested g (image_of g design.config) before Cellular

  abbrev Lined : Refusal → Type 0
  Lined = ArcsDiffer g (image_of g design.config) design.config before Driven

  pub text_decided : IsGraph design.device g → IsDecided (TextRefused design g)
  text_decided is =
      before_decided (Computed (line_refusal g design.config)) Lined (computed_decided (line_refusal g design.config))
      (λ lines. before_decided (ArcsDiffer g (image_of g design.config) design.config) Driven (arcs_decided g (image_of g design.config) design.config)
      (λ arcs. before_decided (AreContested g (image_of g design.config)) Cellular (contested_decided design.device g is (image_of g design.config))
      (λ wires. computed_decided (cell_refusal g design.device.profile (image_of g design.config) design.side))))

  -- where the text passes, its cells are there
  nothing : (o : Option Refusal) → Passes (Computed o) → o ≡ None
  nothing None pass = refl
  nothing (Some r) pass = absurd (pass r refl)

  not_mapped : (o : Option CellFault) → option_map refusal_of_cells o ≡ None → o ≡ None
  not_mapped None e = refl
  not_mapped (Some f) e = absurd (let wrong : ⊥ = cc in wrong)

  cells_there : Passes (TextRefused design g) → (cells : Cells) × (cells_of g design.device.profile (image_of g design.config) design.side ≡ Ok cells)
  cells_there pass =
      let cells = second_passes (AreContested g (image_of g design.config)) Cellular (second_passes (ArcsDiffer g (image_of g design.config) design.config) Driven (second_passes (Computed (line_refusal g design.config)) Lined pass)) in
      let none = not_mapped (cell_fault g design.device.profile (image_of g design.config) design.side) (nothing (cell_refusal g design.device.profile (image_of g design.config) design.side) cells) in
      (_, accepted_cells g design.device.profile (image_of g design.config) design.side (none_accepted g design.device.profile (image_of g design.config) design.side none))

module _ (files : Files) (inputs : Inputs) where
  abbrev Answer : Type 0
  Answer = ((r : Refusal) × IsFirstRefusal files inputs r) ⊎ ((design : Design) × ((g : Graph) × ((cells : Cells) × IsCircuitRead files inputs design g cells)))

  by_text : (design : Design) (g : Graph) → design_of files inputs ≡ Ok design → IsGraph design.device g → Passes (GraphRefused design g) → IsDecided (TextRefused design g) → Answer
  by_text design g e is graph (inl h) = inl (h.0, of_design design g e is (inr (graph, inl h.1)))
  by_text design g e is graph (inr text) =
      let c = cells_there design g text in
      inr (design, (g, (c.0, record { read = e; graph = is; graph_passes = graph; text_passes = text; cells_there = c.1 })))

  by_graph : (design : Design) (g : Graph) → design_of files inputs ≡ Ok design → IsGraph design.device g → IsDecided (GraphRefused design g) → Answer
  by_graph design g e is (inl h) = inl (h.0, of_design design g e is (inl h.1))
  by_graph design g e is (inr graph) = by_text design g e is graph (text_decided design g is)

  by_files : (o : Result Design Refusal) → design_of files inputs ≡ o → Answer
  by_files (Err r) e = inl (r, of_files e)
  by_files (Ok design) e = by_graph design (graph_of design.device) e (has_graph design.device) (graph_decided design (graph_of design.device) (has_graph design.device))

  pub refused_or_read : ((r : Refusal) × IsFirstRefusal files inputs r) ⊎ ((design : Design) × ((g : Graph) × ((cells : Cells) × IsCircuitRead files inputs design g cells)))
  refused_or_read = by_files (design_of files inputs) refl
