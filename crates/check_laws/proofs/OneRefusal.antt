-- Inputs have one first refusal at most.
use Rattle.std.proofs.Common.{◌≡◌, subst}
use Rattle.std.specs.Prelude.{Result, Err}
use Rattle.fabric.specs.Graph.{Graph}
use Rattle.fabric.specs.GraphOf.{IsGraph}
use Rattle.fabric.specs.Image.{image_of}
use Rattle.circuit.specs.Cells.{Cells}
use Rattle.circuit.specs.Circuits.{Circuit}
use Rattle.circuit.specs.Triplicated.{OpenPinsIgnored}
use Rattle.cells.specs.CellsOf.{cells_of}
use Rattle.upset.specs.Configured.{circuit_of}
use Rattle.answers.specs.Refusals.{Refusal}
use Rattle.commands.specs.Commands.{Inputs}
use Rattle.design_files.specs.Parsed.{Files}
use Rattle.design_files.specs.Designs.{Design, design_of}
use Rattle.design_checks.specs.Checks.{Passes, ◌before◌, Computed}
use Rattle.design_checks.specs.GraphChecks.{graph_size_refusal, Overlap}
use Rattle.design_checks.specs.LineChecks.{line_refusal}
use Rattle.design_checks.specs.RoutingChecks.{ArcsDiffer, AreContested}
use Rattle.design_checks.specs.CellChecks.{cell_refusal}
use Rattle.design_checks.specs.PinChecks.{SourceUnnamed, TablesLoop, PinsOpen, ClocksAsData, RegistersUnclocked, PinsForeign}
use Rattle.design_checks.specs.MaskChecks.{TablesFail}
use Rattle.design_checks.specs.CopyChecks.{CopiesUnlike}
use Rattle.design_checks.specs.DesignChecks.{OutputsMissing, GraphRefused, TextRefused, CircuitRefused, configured_as, CellsRefused, in_circuit, DesignRefused, IsFirstRefusal, of_files, of_design}
use Rattle.circuit_laws.proofs.Sound.{Sound}
use Rattle.fabric_laws.proofs.Graphs.{one_graph}
use Rattle.formed_laws.specs.Readers.{IsReadProfile, IsReadSide}
use Rattle.formed_laws.proofs.Results.{same_value}
use Rattle.check_laws.specs.Accepted.{FeedsAreModelled}
use Rattle.check_laws.proofs.RoutingRules as routing
use Rattle.check_laws.proofs.PinRules as pins
use Rattle.check_laws.proofs.Texts as texts
use Rattle.check_laws.proofs.Reading.{design_read}
use Rattle.check_laws.proofs.NeverBoth.{ok_err, same_design}
use Rattle.check_laws.proofs.Refused.{RefusesOne, one_before, one_computed, one_overlap, one_arc, one_contested, one_unnamed, one_loop, one_open, one_clock, one_unclocked, one_foreign, one_failing, one_missing}
use Rattle.check_laws.proofs.RefusedCopies.{one_unlike}

module _ (design : Design) (g : Graph) (profile : IsReadProfile design.device.profile) (side : IsReadSide design.side) (is : IsGraph design.device g) where
  one_of_graph : RefusesOne (GraphRefused design g)
  one_of_graph = one_before (Computed (graph_size_refusal g)) (Overlap design.device g) (one_computed (graph_size_refusal g)) (λ passes. one_overlap design.device g)

  one_of_text : RefusesOne (TextRefused design g)
  one_of_text =
      one_before (Computed (line_refusal g design.config)) (ArcsDiffer g (image_of g design.config) design.config before AreContested g (image_of g design.config) before Computed (cell_refusal g design.device.profile (image_of g design.config) design.side))
      (one_computed (line_refusal g design.config)) (λ lines.
      one_before (ArcsDiffer g (image_of g design.config) design.config) (AreContested g (image_of g design.config) before Computed (cell_refusal g design.device.profile (image_of g design.config) design.side))
      (one_arc g (image_of g design.config) design.config) (λ arcs.
      one_before (AreContested g (image_of g design.config)) (Computed (cell_refusal g design.device.profile (image_of g design.config) design.side)) (one_contested g (image_of g design.config)) (λ clean.
      one_computed (cell_refusal g design.device.profile (image_of g design.config) design.side))))

  one_of_circuit : (c : Circuit) → Sound c → (Passes (SourceUnnamed g c) → FeedsAreModelled c) → (Passes (PinsOpen c) → OpenPinsIgnored c) → RefusesOne (CircuitRefused g c)
  one_of_circuit c ok modelled ignored =
      one_before (SourceUnnamed g c) (TablesLoop c before PinsOpen c before ClocksAsData c before RegistersUnclocked c before PinsForeign c before TablesFail c before CopiesUnlike c before OutputsMissing c.side) (one_unnamed g c ok) (λ named.
      one_before (TablesLoop c) (PinsOpen c before ClocksAsData c before RegistersUnclocked c before PinsForeign c before TablesFail c before CopiesUnlike c before OutputsMissing c.side) (one_loop c) (λ loops.
      one_before (PinsOpen c) (ClocksAsData c before RegistersUnclocked c before PinsForeign c before TablesFail c before CopiesUnlike c before OutputsMissing c.side) (one_open c) (λ opened.
      one_before (ClocksAsData c) (RegistersUnclocked c before PinsForeign c before TablesFail c before CopiesUnlike c before OutputsMissing c.side) (one_clock c) (λ data_pins.
      one_before (RegistersUnclocked c) (PinsForeign c before TablesFail c before CopiesUnlike c before OutputsMissing c.side) (one_unclocked c) (λ clocked.
      one_before (PinsForeign c) (TablesFail c before CopiesUnlike c before OutputsMissing c.side) (one_foreign c) (λ own.
      one_before (TablesFail c) (CopiesUnlike c before OutputsMissing c.side) (one_failing c) (λ masked.
      one_before (CopiesUnlike c) (OutputsMissing c.side) (one_unlike c ok (modelled named) (ignored opened)) (λ alike. one_missing c.side))))))))

  one_of_cells : Passes (GraphRefused design g) → Passes (TextRefused design g) → RefusesOne (CellsRefused design g)
  one_of_cells graph_passes text_passes r s (in_circuit cells there h) (in_circuit others elsewhere k) =
      let same : others ≡ cells = same_value others cells (cells_of g design.device.profile (image_of g design.config) design.side) elsewhere there in
      let c = circuit_of (configured_as design g cells) in
      one_of_circuit c (texts.ok design g cells profile side is there graph_passes text_passes) (pins.modelled c g (routing.output_wire design.device g is)) (pins.open_ignored c) r s h
      (subst (λ (x : Cells). CircuitRefused g (circuit_of (configured_as design g x)) s) same k)

  one_of_design : RefusesOne (DesignRefused design g)
  one_of_design =
      one_before (GraphRefused design g) (TextRefused design g before CellsRefused design g) one_of_graph (λ graph_passes.
      one_before (TextRefused design g) (CellsRefused design g) one_of_text (λ text_passes. one_of_cells graph_passes text_passes))

err_same : (r s : Refusal) (o : Result Design Refusal) → o ≡ Err r → o ≡ Err s → r ≡ s
err_same r s o h k = cc

module _ (files : Files) (inputs : Inputs) where
  -- a design that is refused, as another one that is equal
  moved : (d e : Design) (g h : Graph) (r : Refusal) → d ≡ e → IsGraph d.device g → IsGraph e.device h → DesignRefused d g r → DesignRefused e h r
  moved d e g h r same is graph refused =
      let there = subst (λ (x : Design). IsGraph x.device g) same is in
      subst (λ (x : Graph). DesignRefused e x r) (one_graph e.device g h there graph) (subst (λ (x : Design). DesignRefused x g r) same refused)

  pub one_first : (r s : Refusal) → IsFirstRefusal files inputs r → IsFirstRefusal files inputs s → r ≡ s
  one_first r s (of_files h) (of_files k) = err_same r s (design_of files inputs) h k
  one_first r s (of_files h) (of_design e x k is refused) = absurd (ok_err (design_of files inputs) k h)
  one_first r s (of_design d g h is refused) (of_files k) = absurd (ok_err (design_of files inputs) h k)
  one_first r s (of_design d g h is refused) (of_design e x k graph other) =
      let read = design_read files inputs e k in
      one_of_design e x read.profile read.side graph r s (moved d e g x r (same_design d e (design_of files inputs) h k) is graph refused) other
