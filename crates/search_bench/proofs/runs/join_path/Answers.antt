use Rattle.std.proofs.Common.{subst, sym, arith}
use Rattle.paths.specs.Wiring.{IsArcOf}
use Rattle.net_links.proofs.Listed.{met}
use Rattle.search_bench.specs.declared.arcs.Arcs.{Arcs}
use Rattle.search_bench.specs.Grids.{network}
use Rattle.search_bench.proofs.Connected.{sink_below}
use Rattle.search_bench.proofs.runs.join_path.Goals as goal

pub arc-sink-requires : goal.arc-sink-requires
arc-sink-requires c = subst (λ (arcs : Arcs). IsArcOf (network arcs.wires arcs.distances arcs.outs.items arcs.ins.items).wiring c.a-item.result) (sym c.loop-a.invariant) (c.requires _ (met c.args.path.now c.loop-a.a-index c.a-item.result c.loop-a-test.true c.a-item.is))

pub join-requires : goal.join-requires
join-requires c =
    let net = c.loop-a.net in
    let arc = subst (λ (arcs : Arcs). IsArcOf (network arcs.wires arcs.distances arcs.outs.items arcs.ins.items).wiring c.a-item.result) (sym c.loop-a.invariant) (c.requires _ (met c.args.path.now c.loop-a.a-index c.a-item.result c.loop-a-test.true c.a-item.is)) in
    let s = sink_below net.arcs.wires net.arcs.distances net.arcs.outs.items net.arcs.ins.items net.arcs.is_grid c.a-item.result arc in
    let e = c.arc-sink.ensures.sink in
    let l = net.same in omega arith
