use Rattle.std.proofs.Common.{length, ap, arith}
use Rattle.std.proofs.lemmas.List.{length-drop}
use Rattle.live_links.specs.Live.{Stacked}
use Rattle.live_links.proofs.Paths.{back_more}
use Rattle.live_links.proofs.stack.LinkStack.drop_links.Goals as goal

pub drop_last-requires : goal.drop_last-requires
drop_last-requires c =
    let is = ap (λ (s : Stacked). length s.links) c.loop-done.invariant in
    let l = length-drop c.loop-done._done c.args.self.now.links in
    let t = c.loop-done-test.true in
    let r = c.requires in
    omega arith

pub loop-done-preserved : goal.loop-done-preserved
loop-done-preserved c = back_more c.args.self.now c.loop-done.self c.drop_last.new.self c.loop-done._done c.loop-done.invariant c.drop_last.ensures.last
