use Rattle.std.proofs.Common.{◌≤◌, length, sym, ◌∙◌, arith}
use Rattle.texts.specs.Words.{is_blank}
use Rattle.text_cut.proofs.Places.{place_here, place_nowhere}
use Rattle.text_cut.proofs.word.word_len.Goals as goal

pub returns-then-is_blank-clause-place : goal.returns-then-is_blank-clause-place
returns-then-is_blank-clause-place c =
    place_here is_blank c.args.text.now c.loop-i.i c.loop-i-test.true c.loop-i.invariant (sym c.is_blank.ensures ∙ c.if-is_blank.true)

pub returns-clause-place : goal.returns-clause-place
returns-clause-place c =
    let past : length c.args.text.now ≤ c.loop-i.i = omega arith in
    place_nowhere is_blank c.args.text.now (λ k l. c.loop-i.invariant k (omega arith))
