-- What is answered to a design that is read is the outcome of `check` over the files of which it was read.
use Rattle.std.proofs.Common.{◌≡◌, ◌⊎◌, inl, inr, [], refl, sym, ap, subst}
use Rattle.std.specs.Prelude.{Option, Some, None, Ok, option_map}
use Rattle.fabric.specs.Graph.{Graph}
use Rattle.fabric.specs.GraphOf.{IsGraph}
use Rattle.fabric.specs.Image.{image_of}
use Rattle.circuit.specs.Cells.{Cells}
use Rattle.cells.specs.Faults.{CellFault, cell_fault}
use Rattle.cells.specs.CellsOf.{slice_cells, pad_cells, unless, cells_of}
use Rattle.answers.specs.Answers as status
use Rattle.answers.specs.Answers.{Answer}
use Rattle.answers.specs.Refusals.{Refusal}
use Rattle.commands.specs.Commands.{Inputs, Check}
use Rattle.design_files.specs.Parsed.{Files}
use Rattle.design_files.specs.Designs.{Design, design_of}
use Rattle.design_checks.specs.Checks.{Passes, ◌before◌, Computed}
use Rattle.design_checks.specs.LineChecks.{line_refusal}
use Rattle.design_checks.specs.RoutingChecks.{ArcsDiffer, AreContested}
use Rattle.design_checks.specs.CellChecks.{cell_refusal, refusal_of_cells}
use Rattle.design_checks.specs.DesignChecks.{GraphRefused, TextRefused, CellsRefused, DesignRefused, of_design}
use Rattle.design_answers.specs.Outcomes.{IsOutcome, checks, refuses}
use Rattle.check_laws.proofs.Passing.{first_passes, second_passes}
use Rattle.fabric_laws.specs.PlainGraph.{graph_of}
use Rattle.fabric_laws.proofs.Graphs.{has_graph}
use Rattle.check_command.specs.Checked.{IsCheckedBy, IsCheckedAs}

-- what is computed passes where there is nothing
nothing : (refusal : Option Refusal) → Passes (Computed refusal) → refusal ≡ None
nothing None passes = refl
nothing (Some r) passes = absurd (passes r refl)

unfaulted : (fault : Option CellFault) → option_map refusal_of_cells fault ≡ None → fault ≡ None
unfaulted None e = refl
unfaulted (Some f) e = (let no : ⊥ = cc in absurd no)

module _ (design : Design) (g : Graph) where
  abbrev made : Cells
  made = record { slices = slice_cells g design.device.profile (image_of g design.config) design.side; pads = pad_cells g design.device.profile design.side }

  -- the cells are there where no check refuses
  cells_there : Passes (DesignRefused design g) → cells_of g design.device.profile (image_of g design.config) design.side ≡ Ok made
  cells_there passes =
      let image = image_of g design.config in
      let lines = Computed (line_refusal g design.config) in
      let arcs = ArcsDiffer g image design.config in
      let contested = AreContested g image in
      let cells = Computed (cell_refusal g design.device.profile image design.side) in
      let text : Passes (TextRefused design g) = first_passes (TextRefused design g) (CellsRefused design g) (second_passes (GraphRefused design g) (TextRefused design g before CellsRefused design g) passes) in
      let last : Passes cells = second_passes contested cells (second_passes arcs (contested before cells) (second_passes lines (arcs before contested before cells) text)) in
      let none : cell_refusal g design.device.profile image design.side ≡ None = nothing (cell_refusal g design.device.profile image design.side) last in
      ap (λ (o : Option CellFault). unless o made) (unfaulted (cell_fault g design.device.profile image design.side) none)

module _ (files : Files) (inputs : Inputs) (design : Design) (answer : Answer) (read : design_of files inputs ≡ Ok design) where
  outcome_over : (g : Graph) → IsGraph design.device g → IsCheckedBy (DesignRefused design g) design.side answer
      → IsOutcome files (Check inputs) (record { status = answer.status; text = answer.text; written = [] })
  outcome_over g graph by = elim by [
    | inl p ↦ subst (λ (a : Answer). IsOutcome files (Check inputs) (record { status = a.status; text = a.text; written = [] })) (sym p.1)
        (checks {design = design} {g = g} {cells = made design g} (record { read = read; graph = graph; cells_there = cells_there design g p.0; passes = p.0 }))
    | inr r ↦ subst (λ (a : Answer). IsOutcome files (Check inputs) (record { status = a.status; text = a.text; written = [] })) (sym r.1.1)
        (refuses {inputs = inputs} refl (of_design design g read graph r.1.0))
  ]

  pub outcome_of : IsCheckedAs design answer → IsOutcome files (Check inputs) (record { status = answer.status; text = answer.text; written = [] })
  outcome_of checked = outcome_over (graph_of design.device) (has_graph design.device) (checked (graph_of design.device) (has_graph design.device))

-- a design that is read is accepted or refused
pub status_of_checked : (design : Design) (answer : Answer) → IsCheckedAs design answer → (answer.status ≡ status.Done) ⊎ (answer.status ≡ status.Refused)
status_of_checked design answer checked = elim (checked (graph_of design.device) (has_graph design.device)) [
  | inl p ↦ inl (ap (λ (a : Answer). a.status) p.1)
  | inr r ↦ inr (ap (λ (a : Answer). a.status) r.1.1)
]
