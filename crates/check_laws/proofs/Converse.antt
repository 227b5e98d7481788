-- A sound design passes its checks, where its graph isn't too large and its lines name what is there.
use Rattle.std.proofs.Common.{◌≡◌, None, option_map, ap, subst}
use Rattle.patterns.specs.Bits.{Bits}
use Rattle.fabric.specs.Graph.{Graph}
use Rattle.fabric.specs.Image.{image_of}
use Rattle.circuit.specs.Cells.{Cells}
use Rattle.cells.specs.CellsOf.{cells_of}
use Rattle.upset.specs.Configured.{Configured, circuit_of}
use Rattle.design_files.specs.Designs.{Design}
use Rattle.design_checks.specs.Checks.{Passes, ◌before◌, Computed}
use Rattle.design_checks.specs.GraphChecks.{graph_size_refusal, Overlap}
use Rattle.design_checks.specs.LineChecks.{line_refusal}
use Rattle.design_checks.specs.RoutingChecks.{ArcsDiffer, AreContested}
use Rattle.design_checks.specs.CellChecks.{refusal_of_cells, cell_refusal}
use Rattle.design_checks.specs.DesignChecks.{GraphRefused, TextRefused, CircuitRefused, configured_as, CellsRefused, in_circuit, DesignRefused}
use Rattle.formed_laws.proofs.Formed.{read_well_formed}
use Rattle.formed_laws.proofs.Results.{same_value}
use Rattle.cells_laws.proofs.Faults.{accepted_none, cells_accepted}
use Rattle.check_laws.specs.Accepted.{IsSound}
use Rattle.check_laws.proofs.Passing.{both_pass}
use Rattle.check_laws.proofs.Overlaps.{overlap_passes}
use Rattle.check_laws.proofs.Rules as rules
use Rattle.check_laws.proofs.Triplicating.{circuit_passes}

-- ---- the design

module _ (design : Design) (g : Graph) (cells : Cells) (sound : IsSound design.device design.config (configured_as design g cells)) (small : graph_size_refusal g ≡ None)
    (named : line_refusal g design.config ≡ None) where
  abbrev k : Configured
  k = configured_as design g cells

  abbrev image : Bits
  image = image_of g design.config

  graph_passes : Passes (GraphRefused design g)
  graph_passes = both_pass (Computed (graph_size_refusal g)) (Overlap design.device g) (rules.no_refusal (graph_size_refusal g) small) (overlap_passes design.device g sound.read.outputs)

  no_cell_refusal : cell_refusal g design.device.profile image design.side ≡ None
  no_cell_refusal = ap (option_map refusal_of_cells) (accepted_none g design.device.profile image design.side (cells_accepted g design.device.profile image design.side cells sound.read.cells))

  text_passes : Passes (TextRefused design g)
  text_passes =
      both_pass (Computed (line_refusal g design.config)) (ArcsDiffer g image design.config before AreContested g image before Computed (cell_refusal g design.device.profile image design.side))
      (rules.no_refusal (line_refusal g design.config) named)
      (both_pass (ArcsDiffer g image design.config) (AreContested g image before Computed (cell_refusal g design.device.profile image design.side)) (rules.arcs_pass g image design.config sound.agree)
      (both_pass (AreContested g image) (Computed (cell_refusal g design.device.profile image design.side)) (rules.clean_passes g image sound.clean)
      (rules.no_refusal (cell_refusal g design.device.profile image design.side) no_cell_refusal)))

  cells_pass : Passes (CellsRefused design g)
  cells_pass r (in_circuit others there h) =
      let same : others ≡ cells = same_value others cells (cells_of g design.device.profile image design.side) there sound.read.cells in
      circuit_passes g (circuit_of k) (record { clean = sound.clean; formed = read_well_formed design.device k sound.read }) sound.modelled sound.triplicated r
      (subst (λ (x : Cells). CircuitRefused g (circuit_of (configured_as design g x)) r) same h)

  pub sound_passes : Passes (DesignRefused design g)
  sound_passes =
      both_pass (GraphRefused design g) (TextRefused design g before CellsRefused design g) graph_passes
      (both_pass (TextRefused design g) (CellsRefused design g) text_passes cells_pass)
