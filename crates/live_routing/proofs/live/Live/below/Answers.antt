use Rattle.live_routing.proofs.Alike.{below_are}
use Rattle.live_routing.proofs.live.Live.below.Goals as goal

pub returns-clause-all : goal.returns-clause-all
returns-clause-all g c = below_are (g.G.NamedGraph.graph c.self.inside.graph.now) c.self.inside.image c.self.inside.links c.self.invariant c.args.self.now c.self.view_is (λ v. v.items) c.below.result c.args.w c.below.ensures.all
