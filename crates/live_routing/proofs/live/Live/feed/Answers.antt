use Rattle.std.proofs.Common.{subst}
use Rattle.links.specs.Links.{IsClean}
use Rattle.live_routing.specs.Live.{live_routing}
use Rattle.live_routing.proofs.Alike.{feed_is}
use Rattle.live_routing.proofs.live.Live.feed.Goals as goal

pub returns-clause-feed : goal.returns-clause-feed
returns-clause-feed g c = feed_is (g.G.NamedGraph.graph c.self.inside.graph.now) c.self.inside.image c.self.inside.links c.self.invariant c.args.self.now c.self.view_is c.feed.result c.args.w c.feed.ensures.feed

pub returns-clause-clean : goal.returns-clause-clean
returns-clause-clean g c = subst (λ l. IsClean (live_routing l)) c.self.view_is c.self.invariant.clean
