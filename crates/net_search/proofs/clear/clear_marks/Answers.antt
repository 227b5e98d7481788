use Rattle.std.proofs.Common.{sym, ap, ◌∙◌, arith}
use Rattle.net_links.proofs.Listed.{met, place_of}
use Rattle.pin_search.proofs.Clearing.{clear_begins, clear_more}
use Rattle.net_search.specs.declared.reach.Mark.TheVariants.{Far}
use Rattle.net_search.specs.Marks.{mark_of}
use Rattle.net_search.proofs.clear.clear_marks.Goals as goal

pub put_mark-requires : goal.put_mark-requires
put_mark-requires c = let h = c.requires _ (met c.args.wires.now c.loop-w.w-index c.w-item.result c.loop-w-test.true c.w-item.is) in let e = c.loop-w.invariant.len in omega arith

pub loop-w-init : goal.loop-w-init
loop-w-init c = clear_begins Far Far c.args.wires.now c.args.marks.now

pub loop-w-preserved : goal.loop-w-preserved
loop-w-preserved c = clear_more Far Far c.args.wires.now c.args.marks.now c.loop-w.w-index c.w-item.result c.loop-w.marks c.put_mark.new.marks c.loop-w.invariant c.loop-w-test.true c.w-item.is
    (let h = c.requires _ (met c.args.wires.now c.loop-w.w-index c.w-item.result c.loop-w-test.true c.w-item.is) in let e = c.loop-w.invariant.len in omega arith) c.put_mark.ensures

pub returns : goal.returns
returns c = record {
  len = c.loop-w.invariant.len;
  clear = λ w i. let p = place_of c.args.wires.now w i in let b = p.below in let t = c.loop-w-test.false in ap (mark_of c.loop-w.marks) (sym p.is) ∙ c.loop-w.invariant.clear p.place (omega arith);
  either = c.loop-w.invariant.either;
}
