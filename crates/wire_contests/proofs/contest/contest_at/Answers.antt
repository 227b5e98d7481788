use Rattle.std.proofs.Common.{◌≡◌, ℕ, Option, true, filter, sym, subst, ap, ◌∙◌, ◌↔◌}
use Rattle.words.specs.Members.{In}
use Rattle.wire_contests.specs.declared.contest.Contest.{Contest}
use Rattle.wire_contests.specs.Contests.{Decides, contest_of, first_of, is_fed}
use Rattle.wire_contests.proofs.Rows.{counting_of_row}
use Rattle.wire_contests.proofs.Deciding.{decided}
use Rattle.wire_contests.proofs.contest.contest_at.Goals as goal

pub returns : goal.returns
returns c = λ r of are.
    let xs = filter (is_fed c.args.feeds.now) c.args.row.now in
    let output : (c.feeds_itself.result ≡ true) ↔ In r.outputs c.args.wire =
    ((λ t. (are.fed c.args.wire c.args.wire (c.feeds_itself.ensures.0 t)).output), (λ o. c.feeds_itself.ensures.1 (are.own c.args.wire o))) in
    subst (λ (o : Option Contest). Decides r c.args.wire o)
    (sym (c.contest_by.ensures ∙ ap (λ (o : Option ℕ). contest_of c.args.wire c.feeds_itself.result o c.first_two-two.result.second) c.first_two-two.ensures.first
    ∙ ap (λ (o : Option ℕ). contest_of c.args.wire c.feeds_itself.result (first_of xs) o) c.first_two-two.ensures.second))
    (decided r c.args.wire xs c.feeds_itself.result (counting_of_row r c.args.wire c.args.row.now c.args.feeds.now of are c.requires.rising) output)
