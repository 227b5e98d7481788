use Rattle.size_laws.proofs.Counts.{arcs_refuse, muxes_refuse}
use Rattle.route_graph.proofs.Built.{few_wires, rows_made, small}
use Rattle.route_graph.proofs.made.in_rows.Goals as goal

pub returns-in-Ok-clause-rows : goal.returns-in-Ok-clause-rows
returns-in-Ok-clause-rows c = rows_made c.args.numbers.now.device c.args.numbers.now.wires c.in-Ok.rows.muxes c.in-Ok.rows.arcs c.wires.ensures.named c.in-Ok.ensures.muxes c.in-Ok.ensures.arcs c.in-Ok.ensures.counts c.in-Ok.ensures.few

pub returns-in-Ok-clause-small : goal.returns-in-Ok-clause-small
returns-in-Ok-clause-small c =
    small c.args.numbers.now.device c.args.numbers.now.wires c.in-Ok.rows.muxes c.in-Ok.rows.arcs (few_wires c.args.numbers.now.wires c.wires.result.now c.wires.ensures.wires c.len-wires.ensures.few)
    (rows_made c.args.numbers.now.device c.args.numbers.now.wires c.in-Ok.rows.muxes c.in-Ok.rows.arcs c.wires.ensures.named c.in-Ok.ensures.muxes c.in-Ok.ensures.arcs c.in-Ok.ensures.counts c.in-Ok.ensures.few)

pub returns-in-Err-Muxes-clause-why : goal.returns-in-Err-Muxes-clause-why
returns-in-Err-Muxes-clause-why c =
    let is = c.in-Err-Muxes.field-0-is in
    muxes_refuse c.args.numbers.now.device c.args.numbers.now.wires c.wires.ensures.named (few_wires c.args.numbers.now.wires c.wires.result.now c.wires.ensures.wires c.len-wires.ensures.few) (c.in-Err-Muxes.ensures.many_muxes (cc))

pub returns-in-Err-Arcs-clause-why : goal.returns-in-Err-Arcs-clause-why
returns-in-Err-Arcs-clause-why c =
    let is = c.in-Err-Arcs.field-0-is in
    arcs_refuse c.args.numbers.now.device c.args.numbers.now.wires c.wires.ensures.named (few_wires c.args.numbers.now.wires c.wires.result.now c.wires.ensures.wires c.len-wires.ensures.few) (c.in-Err-Arcs.ensures.few_muxes (cc)) (c.in-Err-Arcs.ensures.many_arcs (cc))
