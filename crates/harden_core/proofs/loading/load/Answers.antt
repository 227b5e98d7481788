use Rattle.std.proofs.Common.{ap, subst}
use Rattle.design_checks.specs.CellChecks.{cell_refusal}
use Rattle.design_checks.specs.Checks.{Computed}
use Rattle.design_checks.specs.DesignChecks.{CellsRefused}
use Rattle.design_checks.specs.LineChecks.{line_refusal}
use Rattle.design_checks.specs.RoutingChecks.{ArcsDiffer, AreContested}
use Rattle.design_files.specs.Designs.{Design}
use Rattle.fabric.specs.Image.{image_of}
use Rattle.load_routing.specs.Refused.{IsRefusedBy}
use Rattle.load_routing.specs.Routing.{RoutingPasses, RoutingRefused}
use Rattle.number_lists.specs.Routed.{graph_of}
use Rattle.records.specs.Config.{Config}
use Rattle.check_laws.proofs.Rules.{arcs_pass, clean_passes}
use Rattle.harden_core.proofs.Refusals.{front_refuses, whole_answer}
use Rattle.harden_core.proofs.loading.load.Goals as goal

pub returns-in-Ok : goal.returns-in-Ok
returns-in-Ok c =
    let g = graph_of c.args.graph.now in
    let design = c.args.design.now in
    let image = image_of g design.config in
    let passes : RoutingPasses g design.config = subst (λ (text : Config). RoutingPasses g text) (ap (λ (d : Design). d.config) c.design.view_is) c.in-Ok.ensures.answer in
    whole_answer (Computed (line_refusal g design.config)) (ArcsDiffer g image design.config) (AreContested g image) (Computed (cell_refusal g design.device.profile image design.side))
    (CellsRefused design g) c.with_routing.result passes.lines (arcs_pass g image design.config passes.agree) (clean_passes g image passes.clean) c.with_routing.ensures

pub returns-in-Err : goal.returns-in-Err
returns-in-Err c =
    let g = graph_of c.args.graph.now in
    let design = c.args.design.now in
    let image = image_of g design.config in
    front_refuses (Computed (line_refusal g design.config)) (ArcsDiffer g image design.config) (AreContested g image) (Computed (cell_refusal g design.device.profile image design.side))
    (CellsRefused design g) c.in-Err.error
    (subst (λ (text : Config). IsRefusedBy (RoutingRefused g text) c.in-Err.error) (ap (λ (d : Design). d.config) c.design.view_is) c.in-Err.ensures.answer)
