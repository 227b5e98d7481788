use Rattle.std.proofs.Common.{ℕ, arith, sym, ◌∙◌}
use Rattle.std.proofs.lemmas.Bool.{true≢false}
use Rattle.net_links.proofs.Listed.{met, all_hold, one_fails}
use Rattle.route_cut.specs.Checked.{StaysWithin}
use Rattle.route_cut.proofs.kept.all_stay.Goals as goal

pub wire_stays-requires-clause-wire : goal.wire_stays-requires-clause-wire
wire_stays-requires-clause-wire g c = c.requires.below _ (met c.args.inside.now c.loop-w.w-index c.w-item.result c.loop-w-test.true c.w-item.is)

pub returns-then-not-wire_stays : goal.returns-then-not-wire_stays
returns-then-not-wire_stays g c =
    let P = λ (w : ℕ). StaysWithin (g.R.Links.network c.args.rules.now).wiring (g.R.PathRules.rules c.args.rules.now) c.args.inside.now c.args.rim.now w in
    one_fails P c.args.inside.now c.loop-w.w-index c.w-item.result c.loop-w-test.true c.w-item.is (λ h. true≢false (sym (c.wire_stays.ensures.1 h) ∙ c.if-not-wire_stays.true))

pub returns : goal.returns
returns g c =
    let P = λ (w : ℕ). StaysWithin (g.R.Links.network c.args.rules.now).wiring (g.R.PathRules.rules c.args.rules.now) c.args.inside.now c.args.rim.now w in
    all_hold P c.args.inside.now c.loop-w.w-index (omega arith) c.loop-w.invariant
