use Rattle.std.proofs.Common.{subst, sym, ◌∙◌}
use Rattle.net_search.specs.Gathering.{IsReached}
use Rattle.net_search.proofs.Gathered.{open_enters, reached_arc}
use Rattle.net_search.proofs.spread.spread_arc.Goals as goal

pub enter-requires-clause-path : goal.enter-requires-clause-path
enter-requires-clause-path g c =
    let net = g.R.Links.network c.args.rules.now in
    let rs = g.R.PathRules.rules c.args.rules.now in
    let reach = c.meet.new.reach in
    let e = c.in_ok-meet.ensures in
    subst (IsReached net rs) (sym c.arc.ensures.sink) (reached_arc net rs c.args.a c.requires.arc
    (open_enters net rs reach.marks.items reach.inside.items reach.edge.items c.args.a c.in_ok-meet.field-0 e.gathers (c.requires.net.wiring.sinks c.args.a c.requires.arc) e.met c.in-Open.is (sym c.takes.ensures ∙ c.if-not-takes.false))
    (c.requires.gathers.paths (net.wiring.source c.args.a) c.requires.from))
