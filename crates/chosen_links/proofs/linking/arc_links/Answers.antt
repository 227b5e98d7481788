use Rattle.std.proofs.Common.{◌<◌, false, get_or, length, arith}
use Rattle.fabric.specs.Links.{link_of}
use Rattle.chosen_links.proofs.Gathering.{image_at, kept_more}
use Rattle.chosen_links.proofs.linking.arc_links.Goals as goal

pub loop-a-preserved : goal.loop-a-preserved
loop-a-preserved g c = λ test h.
    let within : c.loop-a.a < length (g.G.NamedGraph.graph c.args.graph.now).arcs = (let t = c.loop-a-test.true in let e = c.arcs-a-end.ensures in omega arith) in
    kept_more link_of test (g.G.NamedGraph.graph c.args.graph.now).arcs c.loop-a.a c.from_u32.result c.loop-a.links.items c.add_if.new.links.items c.link_at.result (get_or c.args.chosen.now c.loop-a.a false)
    c.from_u32.ensures c.link_at.ensures (image_at test (g.G.NamedGraph.graph c.args.graph.now).arcs c.args.chosen.now c.loop-a.a h within) c.in_ok-add_if.ensures (c.loop-a.invariant test h)
