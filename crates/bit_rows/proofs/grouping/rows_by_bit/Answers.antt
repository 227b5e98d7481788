use Rattle.std.proofs.Common.{◌≡◌, length, arith}
use Rattle.bit_rows.proofs.Inverse.{bit_rows, numbers_known}
use Rattle.bit_rows.proofs.grouping.rows_by_bit.Goals as goal

pub new-requires-clause-known : goal.new-requires-clause-known
new-requires-clause-known c =
    let bits = c.args.numbered.now.bits.items in
    let numbers = c.args.numbered.now.numbers.items in
    rw c.deref.ensures.value (λ k d within. let known = numbers_known bits numbers c.args.pairs.now c.requires.numbered k d within in omega arith)

pub returns : goal.returns
returns c =
    let bits = c.args.numbered.now.bits.items in
    let count : c.len-count.result ≡ length bits = omega arith in
    rw (count, c.deref.ensures.value, c.deref-2.ensures.value, c.in_ok-muxes.ensures, bit_rows bits c.args.numbered.now.numbers.items c.args.pairs.now c.requires.numbered) at c.new.ensures
