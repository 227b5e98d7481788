use Rattle.live_routing.proofs.Alike.{drivers_are}
use Rattle.live_routing.proofs.live.Live.drivers.Goals as goal

pub returns-clause-all : goal.returns-clause-all
returns-clause-all g c = drivers_are (g.G.NamedGraph.graph c.self.inside.graph.now) c.self.inside.image c.self.inside.links c.self.invariant c.args.self.now c.self.view_is c.drivers.result.now c.args.w c.drivers.ensures.all
