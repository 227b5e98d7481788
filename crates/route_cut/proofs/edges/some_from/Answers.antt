use Rattle.std.proofs.Common.{ℕ, refl, arith}
use Rattle.std.proofs.lemmas.Bool.{false≢true}
use Rattle.words.specs.Members.{In}
use Rattle.net_links.proofs.Listed.{met, each_member}
use Rattle.route_cut.proofs.edges.some_from.Goals as goal

pub is_from-requires-clause-arc : goal.is_from-requires-clause-arc
is_from-requires-clause-arc g c = c.requires.arcs _ (met c.args.arcs.now c.loop-a.a-index c.a-item.result c.loop-a-test.true c.a-item.is)

pub returns-then-is_from : goal.returns-then-is_from
returns-then-is_from g c = (
  (λ e. record { arc = c.a-item.result; listed = met c.args.arcs.now c.loop-a.a-index c.a-item.result c.loop-a-test.true c.a-item.is; from = c.is_from.ensures.0 c.if-is_from.true }),
  (λ h. refl),
)

pub returns : goal.returns
returns g c =
    let P = λ (a : ℕ). In c.args.inside.now ((g.R.Links.network c.args.rules.now).wiring.source a) → ⊥ in (
      (λ e. absurd (false≢true e)),
      (λ h. absurd (each_member P c.args.arcs.now (λ k l. c.loop-a.invariant k (let t = c.loop-a-test.false in omega arith)) h.arc h.listed h.from)),
    )
