use Rattle.std.proofs.Common.{arith, ◌∙◌, sym}
use Rattle.std.proofs.lemmas.Bool.{true≢false}
use Rattle.words.specs.Members.{In}
use Rattle.net_links.proofs.Listed.{all_hold, one_fails}
use Rattle.route_cut.proofs.members.holds_all.Goals as goal

pub returns-then-not-is_in : goal.returns-then-not-is_in
returns-then-not-is_in c = one_fails (In c.args.wires.now) c.args.others.now c.loop-w.w-index c.w-item.result c.loop-w-test.true c.w-item.is (λ h. true≢false (sym (c.is_in.ensures.1 h) ∙ c.if-not-is_in.true))

pub returns : goal.returns
returns c = all_hold (In c.args.wires.now) c.args.others.now c.loop-w.w-index (omega arith) c.loop-w.invariant
