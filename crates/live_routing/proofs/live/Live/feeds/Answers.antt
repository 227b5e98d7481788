use Rattle.std.proofs.Common.{subst}
use Rattle.links.specs.Links.{IsClean}
use Rattle.live_routing.specs.Live.{live_routing}
use Rattle.live_routing.proofs.Alike.{feeds_are}
use Rattle.live_routing.proofs.live.Live.feeds.Goals as goal

pub returns-clause-feeds : goal.returns-clause-feeds
returns-clause-feeds g c = feeds_are (g.G.NamedGraph.graph c.self.inside.graph.now) c.self.inside.image c.self.inside.links c.self.invariant c.args.self.now c.self.view_is c.feeds.result.now c.feeds.ensures.feeds

pub returns-clause-clean : goal.returns-clause-clean
returns-clause-clean g c = subst (λ l. IsClean (live_routing l)) c.self.view_is c.self.invariant.clean
