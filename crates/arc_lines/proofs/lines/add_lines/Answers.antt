use Rattle.arc_lines.specs.LineArcs.{line_place}
use Rattle.arc_lines.proofs.Found.{made_more}
use Rattle.arc_lines.proofs.lines.add_lines.Goals as goal

pub loop-line-preserved : goal.loop-line-preserved
loop-line-preserved g c =
    made_more (line_place (g.G.NamedGraph.graph c.args.graph.now) c.args.t) c.args.lines.now c.loop-line.line-index c.line-item.result c.args.found.now.items c.loop-line.found.items c.add_found.new.found.items c.line_arc.result
    c.loop-line-test.true c.line-item.is c.line_arc.ensures c.loop-line.invariant c.in_ok-add_found.ensures
