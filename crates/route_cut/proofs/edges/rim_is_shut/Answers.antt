use Rattle.std.proofs.Common.{ℕ, arith, sym, ◌∙◌}
use Rattle.std.proofs.lemmas.Bool.{true≢false}
use Rattle.net_links.proofs.Listed.{met, all_hold, one_fails}
use Rattle.route_cut.specs.Checked.{IsShutEdge}
use Rattle.route_cut.proofs.edges.rim_is_shut.Goals as goal

pub is_shut_edge-requires-clause-wire : goal.is_shut_edge-requires-clause-wire
is_shut_edge-requires-clause-wire g c = c.requires.below _ (met c.args.rim.now c.loop-w.w-index c.w-item.result c.loop-w-test.true c.w-item.is)

pub returns-then-not-is_shut_edge : goal.returns-then-not-is_shut_edge
returns-then-not-is_shut_edge g c =
    let P = λ (w : ℕ). IsShutEdge (g.R.Links.network c.args.rules.now) (g.R.PathRules.rules c.args.rules.now) c.args.inside.now w in
    one_fails P c.args.rim.now c.loop-w.w-index c.w-item.result c.loop-w-test.true c.w-item.is (λ h. true≢false (sym (c.is_shut_edge.ensures.1 h) ∙ c.if-not-is_shut_edge.true))

pub returns : goal.returns
returns g c =
    let P = λ (w : ℕ). IsShutEdge (g.R.Links.network c.args.rules.now) (g.R.PathRules.rules c.args.rules.now) c.args.inside.now w in
    all_hold P c.args.rim.now c.loop-w.w-index (omega arith) c.loop-w.invariant
