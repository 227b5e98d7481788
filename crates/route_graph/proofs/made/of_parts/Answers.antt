use Rattle.route_graph.proofs.Built.{kept_of}
use Rattle.route_graph.proofs.made.of_parts.Goals as goal

pub bits_in_rows-requires : goal.bits_in_rows-requires
bits_in_rows-requires c = c.requires.few_muxes

pub invariant_of-result : goal.invariant_of-result
invariant_of-result c =
    kept_of c.args.numbers c.in_ok-device.device c.args.rows.muxes c.args.rows.arcs c.args.ends.fixed c.args.ends.outputs c.in_ok-bits.bits c.in_ok-device.ensures c.requires
    c.in_ok-bits.ensures
