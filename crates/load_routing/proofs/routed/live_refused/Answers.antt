use Rattle.std.proofs.Common.{subst}
use Rattle.live_routing.specs.declared.error.LiveError.TheVariants.{Contested}
use Rattle.live_routing.specs.Refused.{Refuses}
use Rattle.report_text.specs.Refused.{refusal_view}
use Rattle.load_routing.proofs.Refusing.{contest_refuses}
use Rattle.load_routing.proofs.routed.live_refused.Goals as goal

pub returns-in-Contested : goal.returns-in-Contested
returns-in-Contested g c = λ image config h.
    let r : Refuses (g.G.NamedGraph.graph c.args.graph.now) image config (Contested c.in-Contested.contest) = subst (Refuses (g.G.NamedGraph.graph c.args.graph.now) image config) c.in-Contested.is h in
    contest_refuses (g.G.NamedGraph.graph c.args.graph.now) image config c.in-Contested.contest (refusal_view c.contest_refused.result) c.refuse-in-Contested.result c.contest_refused.ensures c.refuse-in-Contested.ensures r.0 r.1
