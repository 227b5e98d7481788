use Rattle.std.proofs.Common.{sym, ap, subst}
use Rattle.circuit.specs.Cells.{Cells}
use Rattle.design_checks.specs.DesignChecks.{configured_as}
use Rattle.design_files.specs.Designs.{Design}
use Rattle.fabric.specs.Device.{Device}
use Rattle.fabric.specs.GraphOf.{IsGraph}
use Rattle.fabric.specs.Image.{image_of}
use Rattle.fabric.specs.Links.{routing_of}
use Rattle.links.specs.Links.{IsClean}
use Rattle.number_lists.specs.Routed.{graph_of}
use Rattle.records.specs.Side.{Side}
use Rattle.upset.specs.Configured.{circuit_of}
use Rattle.circuit_checks.specs.Lists.{IsFormed}
use Rattle.harden_core.proofs.Formed.{clean_in, fed_in, formed, outputs_are}
use Rattle.harden_core.proofs.Moved.{whatever}
use Rattle.harden_core.proofs.connections.connections_or_refused.Goals as goal

pub returns-in-Ok-clause-clean : goal.returns-in-Ok-clause-clean
returns-in-Ok-clause-clean c =
    let g = graph_of c.args.graph.now in
    let image = image_of g c.args.design.now.config in
    whatever (IsClean (routing_of g image)) c.circuit_or_refused.result (clean_in c.args.live.now g image c.requires.over c.requires.image c.feeds.ensures.clean)

pub returns-in-Ok-clause-answer : goal.returns-in-Ok-clause-answer
returns-in-Ok-clause-answer c =
    let g = graph_of c.args.graph.now in
    let design = c.args.design.now in
    let cells = c.args.cells.now in
    let image = image_of g design.config in
    let feeds = c.feeds.result.now in
    let circuit = circuit_of (configured_as design g cells) in
    let is : IsGraph design.device g = subst (λ (d : Device). IsGraph d g) c.requires.its_graph c.device-device.ensures.graph in
    let clean = clean_in c.args.live.now g image c.requires.over c.requires.image c.feeds.ensures.clean in
    let fed = fed_in c.args.live.now g image feeds c.requires.over c.requires.image c.feeds.ensures.feeds in
    let ordered = c.slices_stand_in_order.ensures g design.device.profile image design.side cells c.requires.side c.requires.cells in
    let once = c.parts_number_once.ensures g design.device.profile image design.side cells c.requires.side c.requires.cells in
    let whole : IsFormed circuit cells design.side feeds = formed design g cells is c.requires.device c.requires.side c.requires.apart c.requires.cells feeds ordered once clean fed in
    let lent : IsFormed circuit c.in-Ok.parts c.design.inside.side feeds =
    subst (λ (s : Side). IsFormed circuit c.in-Ok.parts s feeds) (sym (ap (λ (d : Design). d.side) c.design.view_is))
    (subst (λ (x : Cells). IsFormed circuit x design.side feeds) (sym c.in-Ok.ensures) whole) in
    c.circuit_or_refused.ensures circuit lent (outputs_are design g cells is c.requires.device c.requires.side c.requires.apart c.requires.cells)
