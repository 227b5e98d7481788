use Rattle.live_routing.proofs.Alike.{next_are}
use Rattle.live_routing.proofs.live.Live.next.Goals as goal

pub returns-clause-all : goal.returns-clause-all
returns-clause-all g c = next_are (g.G.NamedGraph.graph c.self.inside.graph.now) c.self.inside.image c.self.inside.links c.self.invariant c.args.self.now c.self.view_is c.next.result.now c.args.w c.next.ensures.all
