use Rattle.std.proofs.Common.{◌≤◌, length, ap, arith}
use Rattle.texts.specs.PatternBits.{is_b}
use Rattle.text_cut.proofs.Places.{place_here, place_nowhere}
use Rattle.text_cut.proofs.pattern.b_place.Goals as goal

pub returns-clause-place : goal.returns-clause-place
returns-clause-place c =
    let past : length c.args.text.now ≤ c.loop-i.i = omega arith in
    place_nowhere is_b c.args.text.now (λ k l. c.loop-i.invariant k (omega arith))

pub returns-then-byte-eq66-clause-place : goal.returns-then-byte-eq66-clause-place
returns-then-byte-eq66-clause-place c = place_here is_b c.args.text.now c.loop-i.i c.loop-i-test.true c.loop-i.invariant (ap is_b c.if-byte-eq66.true)
