use Rattle.std.proofs.Common.{◌≡◌, ◌∙◌, sym, ap, subst}
use Rattle.cram_image.specs.Image.{bits}
use Rattle.design_checks.specs.CellChecks.{cell_refusal}
use Rattle.design_checks.specs.Checks.{Computed}
use Rattle.design_checks.specs.DesignChecks.{CellsRefused}
use Rattle.design_files.specs.Designs.{Design}
use Rattle.fabric.specs.Image.{image_of}
use Rattle.number_lists.specs.Routed.{graph_of}
use Rattle.slice_model.specs.Grid.{HasFewPins}
use Rattle.circuit_checks.proofs.Steps.{then_second}
use Rattle.load_routing.proofs.Checked.{first_refuses}
use Rattle.harden_core.proofs.CellFaults.{cells_pass}
use Rattle.harden_core.proofs.Formed.{few_pins}
use Rattle.harden_core.proofs.Moved.{cells_same, refused_same}
use Rattle.harden_core.proofs.loading.with_routing.Goals as goal

pub cells_or_refused-requires-clause-stands : goal.cells_or_refused-requires-clause-stands
cells_or_refused-requires-clause-stands c = c.graph_of_device_stands.ensures c.args.graph.now.device (graph_of c.args.graph.now) c.device-device.ensures.graph

pub cells_or_refused-requires-clause-few : goal.cells_or_refused-requires-clause-few
cells_or_refused-requires-clause-few c =
    subst HasFewPins (sym (ap (λ (d : Design). d.device.profile) c.design.view_is)) (few_pins c.args.design.now.device.profile c.requires.device.profile)

pub returns-in-Ok : goal.returns-in-Ok
returns-in-Ok c =
    let g = graph_of c.args.graph.now in
    let design = c.args.design.now in
    let image = image_of g design.config in
    let same_profile : c.design.inside.profile ≡ design.device.profile = ap (λ (d : Design). d.device.profile) c.design.view_is in
    let same_side : c.design.inside.side ≡ design.side = ap (λ (d : Design). d.side) c.design.view_is in
    let same_image : bits c.image.result.now ≡ image = ap bits c.image.ensures ∙ c.requires.image in
    let its = cells_same g c.design.inside.profile design.device.profile (bits c.image.result.now) image c.design.inside.side design.side same_profile same_image same_side c.in-Ok.cells c.in-Ok.ensures in
    then_second (Computed (cell_refusal g design.device.profile image design.side)) (CellsRefused design g) c.with_cells.result
    (cells_pass g design.device.profile image design.side c.in-Ok.cells its) c.with_cells.ensures

pub returns : goal.returns
returns c =
    let g = graph_of c.args.graph.now in
    let design = c.args.design.now in
    let image = image_of g design.config in
    let same_profile : c.design.inside.profile ≡ design.device.profile = ap (λ (d : Design). d.device.profile) c.design.view_is in
    let same_side : c.design.inside.side ≡ design.side = ap (λ (d : Design). d.side) c.design.view_is in
    let same_image : bits c.image.result.now ≡ image = ap bits c.image.ensures ∙ c.requires.image in
    first_refuses (Computed (cell_refusal g design.device.profile image design.side)) (CellsRefused design g) c.in-Err.error
    (refused_same g c.design.inside.profile design.device.profile (bits c.image.result.now) image c.design.inside.side design.side same_profile same_image same_side c.in-Err.error c.in-Err.ensures)
