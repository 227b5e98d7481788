use Rattle.std.proofs.Common.{◌≡◌, ℕ, suc, ◌∷◌, Option, Some, filter, drop, sym, ap, ◌∙◌}
use Rattle.std.specs.Prelude.{option_to_list}
use Rattle.net_links.proofs.Listed.{met}
use Rattle.wire_contests.specs.Contests.{first_of, is_fed, second_of}
use Rattle.wire_contests.proofs.Rows.{one_of, two_found}
use Rattle.wire_contests.proofs.two.first_two.Goals as goal
use Rattle.wire_contests.proofs.two.first_two.Goals.{Then-is_some}

pub is_fed-requires : goal.is_fed-requires
is_fed-requires c = c.requires.within c.x-item.result (met c.args.row.now c.loop-x.x-index c.x-item.result c.loop-x-test.true c.x-item.is)

both : (c : Then-is_some) → (f : ℕ) × ((c.loop-x.first ≡ Some f) × (filter (is_fed c.args.feeds.now) c.args.row.now ≡ f ∷ c.x-item.result ∷ filter (is_fed c.args.feeds.now) (drop (suc c.loop-x.x-index) c.args.row.now)))
both c =
    let one = one_of c.loop-x.first (let t = c.if-is_some.true in let e = c.is_some.ensures in cc) in (
      one.0,
      (
        one.1,
        two_found (is_fed c.args.feeds.now) c.args.row.now c.loop-x.x-index c.x-item.result one.0 c.loop-x-test.true c.x-item.is
            (let e = c.is_fed.ensures in let t = c.if-not-is_fed.false in cc) (c.loop-x.invariant ∙ ap (λ (o : Option ℕ). option_to_list o) one.1),
      ),
    )

pub returns-then-is_some-clause-first : goal.returns-then-is_some-clause-first
returns-then-is_some-clause-first c = let b = both (goal.at.returns-then-is_some-clause-first c).Then-is_some in b.1.0 ∙ ap first_of (sym b.1.1)

pub returns-then-is_some-clause-second : goal.returns-then-is_some-clause-second
returns-then-is_some-clause-second c = let b = both (goal.at.returns-then-is_some-clause-second c).Then-is_some in ap second_of (sym b.1.1)
