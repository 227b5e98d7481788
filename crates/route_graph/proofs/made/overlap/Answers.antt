use Rattle.std.proofs.Common.{◌<◌, List, length, subst, sym}
use Rattle.fabric.specs.Wires.{Wire}
use Rattle.route_graph.proofs.Built.{overlap_is}
use Rattle.route_graph.proofs.made.overlap.Goals as goal

pub owned_wire-requires : goal.owned_wire-requires
owned_wire-requires c = subst (λ (ws : List Wire). c.args.w < length ws) (sym c.wires.ensures.wires) c.requires.known

pub returns-in-Ok : goal.returns-in-Ok
returns-in-Ok c = overlap_is c.args.numbers.now.device c.args.numbers.now.wires c.wires.result.now c.args.w c.in-Ok.wire c.wires.ensures.wires c.requires.small c.wires.ensures.named c.requires.first c.in-Ok.ensures
