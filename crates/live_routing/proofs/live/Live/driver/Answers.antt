use Rattle.std.proofs.Common.{subst}
use Rattle.links.specs.Links.{IsClean}
use Rattle.live_routing.specs.Live.{live_routing}
use Rattle.live_routing.proofs.Alike.{driver_is}
use Rattle.live_routing.proofs.live.Live.driver.Goals as goal

pub returns-clause-driver : goal.returns-clause-driver
returns-clause-driver g c = driver_is (g.G.NamedGraph.graph c.self.inside.graph.now) c.self.inside.image c.self.inside.links c.self.invariant c.args.self.now c.self.view_is c.driver.result c.args.w c.driver.ensures.driver

pub returns-clause-clean : goal.returns-clause-clean
returns-clause-clean g c = subst (λ l. IsClean (live_routing l)) c.self.view_is c.self.invariant.clean
