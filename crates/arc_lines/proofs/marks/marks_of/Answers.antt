use Rattle.std.proofs.Common.{◌<◌, false, get_or, vec_len, ◌∙◌, arith}
use Rattle.arc_lines.proofs.Found.{mark_more}
use Rattle.arc_lines.proofs.marks.marks_of.Goals as goal

pub loop-a-preserved : goal.loop-a-preserved
loop-a-preserved c = record {
  long = c.mark.ensures.long ∙ c.loop-a.invariant.long;
  marks = λ k below.
      let within : k < vec_len c.loop-a.marks = (let l = c.loop-a.invariant.long in omega arith) in
      mark_more c.args.arcs.now c.loop-a.a-index c.a-item.result k (get_or c.loop-a.marks.items k false) (get_or c.mark.new.marks.items k false)
      c.loop-a-test.true c.a-item.is (c.mark.ensures.marks k within) (c.loop-a.invariant.marks k below);
}
