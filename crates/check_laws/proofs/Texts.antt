-- What the checks of the graph and of the text leave: the design is read, its arcs agree, its routing is clean and its
-- cells are well formed.
use Rattle.std.proofs.Common.{◌≡◌}
use Rattle.std.specs.Prelude.{Ok}
use Rattle.patterns.specs.Bits.{Bits}
use Rattle.links.specs.Links.{IsClean}
use Rattle.fabric.specs.Graph.{Graph}
use Rattle.fabric.specs.GraphOf.{IsGraph}
use Rattle.fabric.specs.Image.{image_of}
use Rattle.fabric.specs.Links.{routing_of}
use Rattle.fabric.specs.Agree.{ArcsAgree}
use Rattle.circuit.specs.Cells.{Cells}
use Rattle.cells.specs.CellsOf.{cells_of}
use Rattle.upset.specs.Configured.{Configured, circuit_of}
use Rattle.design_files.specs.Designs.{Design}
use Rattle.design_checks.specs.Checks.{Passes, ◌before◌, Computed}
use Rattle.design_checks.specs.GraphChecks.{graph_size_refusal, Overlap}
use Rattle.design_checks.specs.LineChecks.{line_refusal}
use Rattle.design_checks.specs.RoutingChecks.{ArcsDiffer, AreContested}
use Rattle.design_checks.specs.CellChecks.{cell_refusal}
use Rattle.design_checks.specs.DesignChecks.{GraphRefused, TextRefused, configured_as}
use Rattle.circuit_laws.proofs.Sound.{Sound}
use Rattle.formed_laws.specs.Readers.{IsReadProfile, IsReadSide}
use Rattle.formed_laws.specs.Designs.{IsReadDesign}
use Rattle.formed_laws.proofs.Formed.{read_well_formed}
use Rattle.check_laws.proofs.Passing.{first_passes, second_passes}
use Rattle.check_laws.proofs.RoutingRules as routing
use Rattle.check_laws.proofs.Overlaps.{no_overlap}

module _ (design : Design) (g : Graph) (cells : Cells) (profile : IsReadProfile design.device.profile) (side : IsReadSide design.side) (is : IsGraph design.device g)
    (there : cells_of g design.device.profile (image_of g design.config) design.side ≡ Ok cells) (graph_passes : Passes (GraphRefused design g)) (text_passes : Passes (TextRefused design g)) where
  abbrev pub k : Configured
  k = configured_as design g cells

  abbrev image : Bits
  image = image_of g design.config

  pub read : IsReadDesign design.device k
  read = record {
    profile = profile;
    side = side;
    graph = is;
    outputs = no_overlap design.device g is (second_passes (Computed (graph_size_refusal g)) (Overlap design.device g) graph_passes);
    cells = there;
  }

  behind_lines : Passes (ArcsDiffer g image design.config before AreContested g image before Computed (cell_refusal g design.device.profile image design.side))
  behind_lines = second_passes (Computed (line_refusal g design.config)) (ArcsDiffer g image design.config before AreContested g image before Computed (cell_refusal g design.device.profile image design.side)) text_passes

  pub agree : ArcsAgree g image design.config
  agree = routing.agree design.device g is image design.config (first_passes (ArcsDiffer g image design.config) (AreContested g image before Computed (cell_refusal g design.device.profile image design.side)) behind_lines)

  behind_arcs : Passes (AreContested g image before Computed (cell_refusal g design.device.profile image design.side))
  behind_arcs = second_passes (ArcsDiffer g image design.config) (AreContested g image before Computed (cell_refusal g design.device.profile image design.side)) behind_lines

  pub clean : IsClean (routing_of g image)
  clean = routing.clean design.device g is image (first_passes (AreContested g image) (Computed (cell_refusal g design.device.profile image design.side)) behind_arcs)

  pub ok : Sound (circuit_of k)
  ok = record { clean = clean; formed = read_well_formed design.device k read }
