use Rattle.std.proofs.Common.{ℕ, length, take, ap, sym, ◌∙◌, arith}
use Rattle.std.proofs.lemmas.List.{length-take-le}
use Rattle.live_links.specs.Live.{Stacked, with_path, without_links}
use Rattle.live_links.proofs.Paths.{addable_next, path_back, path_long, path_more}
use Rattle.live_links.proofs.stack.LinkStack.add_path.Goals as goal

pub drop_links-requires : goal.drop_links-requires
drop_links-requires c =
    let path = take c.loop-count.count c.args.path.now in
    let is = ap (λ (s : Stacked). length s.links) (c.in-Err.ensures.err ∙ c.loop-count.invariant.added) in
    let long = path_long c.args.self.now path in
    let below = c.loop-count-test.true in
    let front = length-take-le c.loop-count.count c.args.path.now (omega arith) in
    omega arith

pub returns-in-Err-clause-err : goal.returns-in-Err-clause-err
returns-in-Err-clause-err c =
    let n = c.loop-count.count in
    let below = c.loop-count-test.true in
    let front = length-take-le n c.args.path.now (omega arith) in
    c.drop_links.ensures ∙ (ap (without_links n) (c.in-Err.ensures.err ∙ c.loop-count.invariant.added)
    ∙ (ap (λ (m : ℕ). without_links m (with_path c.args.self.now (take n c.args.path.now))) (sym front) ∙ path_back c.args.self.now (take n c.args.path.now)))

pub loop-count-preserved : goal.loop-count-preserved
loop-count-preserved c = record {
  added = path_more c.args.self.now c.loop-count.self c.add.new.self c.args.path.now c.loop-count.count c.index-path-count.result c.loop-count-test.true c.index-path-count.is c.loop-count.invariant.added c.in-Ok.ensures.ok;
  rest = addable_next c.loop-count.self c.add.new.self c.args.path.now c.loop-count.count c.index-path-count.result c.loop-count-test.true c.index-path-count.is c.loop-count.invariant.rest c.in-Ok.ensures.ok;
}
