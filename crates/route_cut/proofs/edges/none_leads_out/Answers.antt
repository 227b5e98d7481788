use Rattle.std.proofs.Common.{ℕ, ◌≡◌, true, arith}
use Rattle.words.specs.Members.{In}
use Rattle.net_links.proofs.Listed.{met, all_hold, one_fails}
use Rattle.route_cut.proofs.edges.none_leads_out.Goals as goal

pub leads_out-requires-clause-arc : goal.leads_out-requires-clause-arc
leads_out-requires-clause-arc g c = c.requires.arcs _ (met c.args.arcs.now c.loop-a.a-index c.a-item.result c.loop-a-test.true c.a-item.is)

pub returns-then-leads_out : goal.returns-then-leads_out
returns-then-leads_out g c =
    let P = λ (a : ℕ). In c.args.inside.now ((g.R.Links.network c.args.rules.now).wiring.source a) × ((g.R.PathRules.rules c.args.rules.now).takes a ≡ true) → ⊥ in
    one_fails P c.args.arcs.now c.loop-a.a-index c.a-item.result c.loop-a-test.true c.a-item.is (λ h. h (c.leads_out.ensures.0 c.if-leads_out.true))

pub returns : goal.returns
returns g c =
    let P = λ (a : ℕ). In c.args.inside.now ((g.R.Links.network c.args.rules.now).wiring.source a) × ((g.R.PathRules.rules c.args.rules.now).takes a ≡ true) → ⊥ in
    all_hold P c.args.arcs.now c.loop-a.a-index (omega arith) c.loop-a.invariant
