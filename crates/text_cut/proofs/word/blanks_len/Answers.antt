use Rattle.std.proofs.Common.{ℕ, ◌≤◌, length, Bool, not, ap, sym, ◌∙◌, arith}
use Rattle.texts.specs.Words.{is_blank}
use Rattle.text_cut.proofs.Places.{place_here, place_nowhere}
use Rattle.text_cut.proofs.word.blanks_len.Goals as goal

abbrev is_bare : ℕ → Bool
is_bare byte = not (is_blank byte)

pub returns-then-not-is_blank-clause-place : goal.returns-then-not-is_blank-clause-place
returns-then-not-is_blank-clause-place c =
    place_here is_bare c.args.text.now c.loop-i.i c.loop-i-test.true c.loop-i.invariant (ap not (sym c.is_blank.ensures ∙ c.if-not-is_blank.true))

pub returns-clause-place : goal.returns-clause-place
returns-clause-place c =
    let past : length c.args.text.now ≤ c.loop-i.i = omega arith in
    place_nowhere is_bare c.args.text.now (λ k l. c.loop-i.invariant k (omega arith))
