use Rattle.route_graph.specs.Owned.{wire_of}
use Rattle.route_graph.proofs.Named.{is_there, not_ignored, wire_is}
use Rattle.route_graph.proofs.owned.owned_wire.Goals as goal

pub unwrap-name-requires : goal.unwrap-name-requires
unwrap-name-requires c = is_there c.args.wires.now c.args.w c.requires c.name.result c.name.ensures

pub owned_name-requires : goal.owned_name-requires
owned_name-requires c = not_ignored c.args.wires.now c.args.w c.requires c.name.result c.unwrap-name.result c.unwrap-name.ensures c.name.ensures

pub returns : goal.returns
returns c = wire_is c.args.wires.now c.args.w c.requires c.name.result c.unwrap-name.result (wire_of c.in_ok-wire.wire) c.unwrap-name.ensures c.name.ensures c.in_ok-wire.ensures
