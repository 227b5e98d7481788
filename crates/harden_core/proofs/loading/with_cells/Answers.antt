use Rattle.std.proofs.Common.{subst}
use Rattle.fabric.specs.Device.{Device}
use Rattle.fabric.specs.GraphOf.{IsGraph}
use Rattle.number_lists.specs.Routed.{graph_of}
use Rattle.harden_core.proofs.Formed.{loaded}
use Rattle.harden_core.proofs.Refusals.{circuit_passes, circuit_refuses}
use Rattle.harden_core.proofs.loading.with_cells.Goals as goal

pub invariant_of-result : goal.invariant_of-result
invariant_of-result c =
    let g = graph_of c.args.graph.now in
    loaded c.args.design.now c.args.live c.args.cells c.in-Ok.feeds.items g c.requires.over c.requires.image
    (subst (λ (d : Device). IsGraph d g) c.requires.its_graph c.device-device.ensures.graph) c.requires.device c.requires.side c.requires.apart c.requires.cells
    c.in-Ok.ensures.clean c.in-Ok.ensures.answer.0 c.in-Ok.ensures.answer.1

pub returns-in-Ok : goal.returns-in-Ok
returns-in-Ok c = circuit_passes c.args.design.now (graph_of c.args.graph.now) c.args.cells c.requires.cells c.in-Ok.ensures.answer.1

pub returns : goal.returns
returns c = circuit_refuses c.args.design.now (graph_of c.args.graph.now) c.args.cells c.requires.cells c.in-Err.error c.in-Err.ensures.answer
