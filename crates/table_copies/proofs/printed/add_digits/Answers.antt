use Rattle.std.proofs.Common.{◌<◌, ◌≤◌, [], ◌∷◌, ◌++◌, length, ap, ◌∙◌, arith}
use Rattle.table_copies.specs.Digits.{digits_of}
use Rattle.table_copies.proofs.Bits.{length_digits}
use Rattle.table_copies.proofs.Texts.{digits_more, digits_all}
use Rattle.table_copies.proofs.printed.add_digits.Goals as goal

-- one digit more
pub loop-place-preserved : goal.loop-place-preserved
loop-place-preserved c =
    let digits = digits_of c.args.assignment.count c.args.assignment.number in
    let long = length_digits c.args.assignment.count c.args.assignment.number in
    digits_more c.args.text.now.items c.loop-place.text.items c.push.new.self.items digits c.loop-place.place c.digit.result (let h : c.loop-place.place < length digits = omega arith in h) c.digit.ensures c.loop-place.invariant
    (c.in_ok-push.ensures.items ∙ ap (λ b. c.loop-place.text.items ++ b ∷ []) c.digit_byte.ensures)

pub returns : goal.returns
returns c =
    let digits = digits_of c.args.assignment.count c.args.assignment.number in
    let long = length_digits c.args.assignment.count c.args.assignment.number in
    digits_all c.args.text.now.items c.loop-place.text.items digits c.loop-place.place (let h : length digits ≤ c.loop-place.place = omega arith in h) c.loop-place.invariant
