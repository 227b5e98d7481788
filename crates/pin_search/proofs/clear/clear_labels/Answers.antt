use Rattle.std.proofs.Common.{arith, ◌∙◌, ap, set, ℕ}
use Rattle.net_links.proofs.Listed.{met}
use Rattle.pin_search.specs.Labels.{far}
use Rattle.pin_search.proofs.Clearing.{clear_begins, clear_more, all_clear}
use Rattle.pin_search.proofs.clear.clear_labels.Goals as goal

pub put_label-requires : goal.put_label-requires
put_label-requires c = let h = c.requires.wires _ (met c.args.touched.now c.loop-w.w-index c.w-item.result c.loop-w-test.true c.w-item.is) in let e = c.loop-w.invariant.len in omega arith

pub loop-w-init : goal.loop-w-init
loop-w-init c = clear_begins 0 far c.args.touched.now c.args.labels.now

pub loop-w-preserved : goal.loop-w-preserved
loop-w-preserved c = clear_more 0 far c.args.touched.now c.args.labels.now c.loop-w.w-index c.w-item.result c.loop-w.labels c.put_label.new.labels c.loop-w.invariant c.loop-w-test.true c.w-item.is
    (let h = c.requires.wires _ (met c.args.touched.now c.loop-w.w-index c.w-item.result c.loop-w-test.true c.w-item.is) in let e = c.loop-w.invariant.len in omega arith) (c.put_label.ensures ∙ ap (λ (v : ℕ). set c.loop-w.labels c.w-item.result v) c.far.ensures)

pub returns : goal.returns
returns c = all_clear 0 far c.args.touched.now c.args.labels.now c.loop-w.labels c.loop-w.w-index c.loop-w.invariant (let t = c.loop-w-test.false in omega arith) c.requires.known
