use Rattle.std.proofs.Common.{◌≡◌, ℕ, ◌<◌, List, [], Option, Some, None, true, false, get_or, sym, subst, arith, below_more}
use Rattle.std.specs.Prelude.{MatchOption, is_some}
use Rattle.std.proofs.lemmas.Bool.{false≢true}
use Rattle.std.proofs.lemmas.Option.{get_or_from_slice_get}
use Rattle.links.specs.Links.{IsClean, Routing}
use Rattle.design_checks.specs.RoutingChecks.{IsContested}
use Rattle.wire_feeds.specs.Rows.{AreFeeds}
use Rattle.wire_contests.specs.declared.contest.Contest.{Contest}
use Rattle.wire_contests.specs.Contests.{Decides, HasDrivers, IsContest, IsRowOf}
use Rattle.wire_contests.proofs.Least.{all_clean, first_is}
use Rattle.wire_contests.proofs.search.first_contest.Goals as goal
use Rattle.wire_contests.proofs.search.first_contest.Goals.{After-contest_at-contest}

row_is : (c : After-contest_at-contest) → get_or c.args.drivers.now c.loop-number.number [] ≡ c.row.result.now
row_is c = get_or_from_slice_get c.args.drivers.now c.loop-number.number c.row.result.now [] (sym (rw (← c.from_u32-wire.ensures) c.row.ensures))

decides : (c : After-contest_at-contest) → (r : Routing) → HasDrivers r c.args.drivers.now → AreFeeds r c.args.feeds.now → Decides r c.loop-number.number c.contest_at-contest.result
decides c r has are =
    subst (λ w. Decides r w c.contest_at-contest.result) c.from_u32-wire.ensures
    (c.contest_at-contest.ensures r (subst (λ w. IsRowOf r w c.row.result.now) (sym c.from_u32-wire.ensures)
    (subst (λ (row : List ℕ). IsRowOf r c.loop-number.number row) (row_is c) (has c.loop-number.number))) are)

found : (o : Option Contest) (r : Routing) (i : ℕ) → is_some o ≡ true → ((k : ℕ) → k < i → IsContested r k → ⊥) → Decides r i o → MatchOption o (IsClean r) (IsContest r)
found (Some k) r i e none d = first_is r i k none d
found None r i e none d = absurd (false≢true e)

missed : (o : Option Contest) (r : Routing) (i : ℕ) → is_some o ≡ false → Decides r i o → IsContested r i → ⊥
missed (Some k) r i e d = absurd (false≢true (sym e))
missed None r i e d = d

pub returns-then-is_some : goal.returns-then-is_some
returns-then-is_some c = λ r has are.
    found c.contest_at-contest.result r c.loop-number.number (let t = c.if-is_some.true in let e = c.is_some.ensures in cc) (c.loop-number.invariant r has are) (decides (goal.at.returns-then-is_some c).After-contest_at-contest r has are)

pub loop-number-preserved : goal.loop-number-preserved
loop-number-preserved c = λ r has are.
    below_more (λ k. IsContested r k → ⊥) c.loop-number.number (c.loop-number.invariant r has are)
    (missed c.contest_at-contest.result r c.loop-number.number (let t = c.if-is_some.false in let e = c.is_some.ensures in cc) (decides (goal.at.loop-number-preserved c).After-contest_at-contest r has are))

pub returns : goal.returns
returns c = λ r has are. all_clean r c.args.drivers.now c.loop-number.number has (let t = c.loop-number-test.false in omega arith) (c.loop-number.invariant r has are)
