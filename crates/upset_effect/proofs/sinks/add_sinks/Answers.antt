use Rattle.net_links.proofs.Listed.{met}
use Rattle.upset_effect.proofs.Sunk.{sinks_more}
use Rattle.upset_effect.proofs.sinks.add_sinks.Goals as goal

pub sink_of-requires : goal.sink_of-requires
sink_of-requires g c = c.requires c.m-item.result (met c.args.muxes.now c.loop-m.m-index c.m-item.result c.loop-m-test.true c.m-item.is)

pub loop-m-preserved : goal.loop-m-preserved
loop-m-preserved g c =
    sinks_more (g.G.NamedGraph.graph c.args.graph.now) c.args.muxes.now c.loop-m.m-index c.m-item.result c.sink_of.result c.args.sinks.now.items c.loop-m.sinks.items c.push.new.self.items
    c.loop-m-test.true c.m-item.is c.sink_of.ensures c.loop-m.invariant c.in_ok-push.ensures.items
