-- An accepted design is sound: what its checks leave, put together.
use Rattle.std.proofs.Common.{◌≡◌}
use Rattle.std.specs.Prelude.{Ok}
use Rattle.records.specs.Side.{Domain}
use Rattle.fabric.specs.Graph.{Graph}
use Rattle.fabric.specs.GraphOf.{IsGraph}
use Rattle.fabric.specs.Image.{image_of}
use Rattle.circuit.specs.Cells.{Cells}
use Rattle.circuit.specs.Circuits.{Circuit}
use Rattle.circuit.specs.Faults.{Fault}
use Rattle.circuit.specs.Right.{RightOutside, TwoAreRight}
use Rattle.circuit.specs.Triplicated.{IsTriplicated}
use Rattle.cells.specs.CellsOf.{cells_of}
use Rattle.upset.specs.Configured.{Configured, circuit_of}
use Rattle.upset.specs.Safe.{IsMuxFault, IsSafe}
use Rattle.commands.specs.Commands.{Inputs}
use Rattle.design_files.specs.Parsed.{Files}
use Rattle.design_files.specs.Designs.{Design}
use Rattle.design_checks.specs.Checks.{Passes, ◌before◌}
use Rattle.design_checks.specs.DesignChecks.{GraphRefused, TextRefused, CircuitRefused, configured_as, CellsRefused, in_circuit, DesignRefused, IsAccepted}
use Rattle.circuit_laws.proofs.Sound.{Sound}
use Rattle.formed_laws.specs.Readers.{IsReadProfile, IsReadSide}
use Rattle.formed_laws.specs.Designs.{IsReadDesign}
use Rattle.formed_laws.proofs.Formed.{read_entries, read_mux_bits_masked}
use Rattle.check_laws.specs.Accepted.{FeedsAreModelled, IsSound}
use Rattle.check_laws.proofs.Passing.{first_passes, second_passes}
use Rattle.check_laws.proofs.RoutingRules as routing
use Rattle.check_laws.proofs.Triplicating as whole
use Rattle.check_laws.proofs.Texts as texts
use Rattle.check_laws.proofs.Reading.{design_read}

module _ (design : Design) (g : Graph) (cells : Cells) (profile : IsReadProfile design.device.profile) (side : IsReadSide design.side) (is : IsGraph design.device g)
    (there : cells_of g design.device.profile (image_of g design.config) design.side ≡ Ok cells) (passes : Passes (DesignRefused design g)) where
  abbrev k : Configured
  k = configured_as design g cells

  abbrev c : Circuit
  c = circuit_of k

  graph_passes : Passes (GraphRefused design g)
  graph_passes = first_passes (GraphRefused design g) (TextRefused design g before CellsRefused design g) passes

  rest_passes : Passes (TextRefused design g before CellsRefused design g)
  rest_passes = second_passes (GraphRefused design g) (TextRefused design g before CellsRefused design g) passes

  text_passes : Passes (TextRefused design g)
  text_passes = first_passes (TextRefused design g) (CellsRefused design g) rest_passes

  cells_pass : Passes (CellsRefused design g)
  cells_pass = second_passes (TextRefused design g) (CellsRefused design g) rest_passes

  circuit_passes : Passes (CircuitRefused g c)
  circuit_passes r h = cells_pass r (in_circuit cells there h)

  read : IsReadDesign design.device k
  read = texts.read design g cells profile side is there graph_passes text_passes

  ok : Sound c
  ok = texts.ok design g cells profile side is there graph_passes text_passes

  modelled : FeedsAreModelled c
  modelled = whole.modelled g c ok (read_entries design.device k read) (routing.output_wire design.device g is) circuit_passes

  triplicated : IsTriplicated c
  triplicated = whole.triplicated g c ok (read_entries design.device k read) (routing.output_wire design.device g is) circuit_passes

  pub passing_sound : IsSound design.device design.config k
  passing_sound = record { read = read; clean = ok.clean; agree = texts.agree design g cells profile side is there graph_passes text_passes; modelled = modelled; triplicated = triplicated }

module _ (files : Files) (inputs : Inputs) (design : Design) (g : Graph) (cells : Cells) (accepted : IsAccepted files inputs design g cells) where
  pub accepted_sound : IsSound design.device design.config (configured_as design g cells)
  accepted_sound =
      let r = design_read files inputs design accepted.read in
      passing_sound design g cells r.profile r.side accepted.graph accepted.cells_there accepted.passes

  pub accepted_masked : IsSafe (configured_as design g cells) → (f : Fault) → IsMuxFault (configured_as design g cells) f
      → ((d : Domain) × RightOutside (circuit_of (configured_as design g cells)) f d) × TwoAreRight (circuit_of (configured_as design g cells)) f
  accepted_masked = read_mux_bits_masked design.device (configured_as design g cells) accepted_sound.read accepted_sound.clean accepted_sound.triplicated
