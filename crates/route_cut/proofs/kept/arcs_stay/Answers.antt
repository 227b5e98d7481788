use Rattle.std.proofs.Common.{ℕ, arith, sym, ◌∙◌}
use Rattle.std.proofs.lemmas.Bool.{true≢false}
use Rattle.net_links.proofs.Listed.{met, all_hold, one_fails}
use Rattle.route_cut.specs.Checked.{LeadsWithin}
use Rattle.route_cut.proofs.kept.arcs_stay.Goals as goal

pub arc_stays-requires-clause-arc : goal.arc_stays-requires-clause-arc
arc_stays-requires-clause-arc g c = c.requires.arcs _ (met c.args.arcs.now c.loop-a.a-index c.a-item.result c.loop-a-test.true c.a-item.is)

pub returns-then-not-arc_stays : goal.returns-then-not-arc_stays
returns-then-not-arc_stays g c =
    let P = λ (a : ℕ). LeadsWithin (g.R.Links.network c.args.rules.now).wiring c.args.inside.now c.args.rim.now a in
    one_fails P c.args.arcs.now c.loop-a.a-index c.a-item.result c.loop-a-test.true c.a-item.is (λ h. true≢false (sym (c.arc_stays.ensures.1 h) ∙ c.if-not-arc_stays.true))

pub returns : goal.returns
returns g c =
    let P = λ (a : ℕ). LeadsWithin (g.R.Links.network c.args.rules.now).wiring c.args.inside.now c.args.rim.now a in
    all_hold P c.args.arcs.now c.loop-a.a-index (omega arith) c.loop-a.invariant
