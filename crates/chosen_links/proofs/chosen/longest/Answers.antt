use Rattle.std.proofs.Common.{arith}
use Rattle.fabric.specs.Links.{is_chosen}
use Rattle.chosen_links.proofs.Gathering.{map_all, map_more}
use Rattle.chosen_links.proofs.chosen.longest.Goals as goal

pub loop-a-preserved : goal.loop-a-preserved
loop-a-preserved g c = λ image fitting are.
    map_more (is_chosen (g.G.NamedGraph.graph c.args.graph.now) image) (g.G.NamedGraph.graph c.args.graph.now).arcs c.loop-a.a c.from_u32.result c.loop-a.chosen.items c.push.new.self.items c.is_chosen.result
    c.from_u32.ensures (c.is_chosen.ensures image fitting are) c.in_ok-push.ensures.items (c.loop-a.invariant image fitting are)

pub returns : goal.returns
returns g c = λ image fitting are.
    map_all (is_chosen (g.G.NamedGraph.graph c.args.graph.now) image) (g.G.NamedGraph.graph c.args.graph.now).arcs c.loop-a.a c.loop-a.chosen.items (let t = c.loop-a-test.false in let e = c.arcs-a-end.ensures in omega arith) (c.loop-a.invariant image fitting are)
