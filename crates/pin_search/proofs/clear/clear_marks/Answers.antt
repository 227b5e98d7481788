use Rattle.std.proofs.Common.{false, arith}
use Rattle.net_links.proofs.Listed.{met}
use Rattle.pin_search.proofs.Clearing.{clear_begins, clear_more, all_clear}
use Rattle.pin_search.proofs.clear.clear_marks.Goals as goal

pub put_mark-requires : goal.put_mark-requires
put_mark-requires c = let h = c.requires.wires _ (met c.args.touched.now c.loop-w.w-index c.w-item.result c.loop-w-test.true c.w-item.is) in let e = c.loop-w.invariant.len in omega arith

pub loop-w-init : goal.loop-w-init
loop-w-init c = clear_begins false false c.args.touched.now c.args.marks.now

pub loop-w-preserved : goal.loop-w-preserved
loop-w-preserved c = clear_more false false c.args.touched.now c.args.marks.now c.loop-w.w-index c.w-item.result c.loop-w.marks c.put_mark.new.marks c.loop-w.invariant c.loop-w-test.true c.w-item.is
    (let h = c.requires.wires _ (met c.args.touched.now c.loop-w.w-index c.w-item.result c.loop-w-test.true c.w-item.is) in let e = c.loop-w.invariant.len in omega arith) c.put_mark.ensures

pub returns : goal.returns
returns c = all_clear false false c.args.touched.now c.args.marks.now c.loop-w.marks c.loop-w.w-index c.loop-w.invariant (let t = c.loop-w-test.false in omega arith) c.requires.known
