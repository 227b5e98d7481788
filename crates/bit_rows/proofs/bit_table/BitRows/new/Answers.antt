use Rattle.std.proofs.Common.{◌≡◌, ◌∙◌, ap, length, map, List, subst, sym, arith}
use Rattle.patterns.specs.Bits.{DeviceBit}
use Rattle.fabric.specs.InOrder.{InOrderOnce}
use Rattle.graph_lists.proofs.Fewer.{not_more}
use Rattle.bit_rows.specs.MuxBits.{bit_first, bits_by_mux}
use Rattle.bit_rows.specs.Numbered.{AreInverse, AreNumbered}
use Rattle.bit_rows.proofs.Inverse.{all_bits, muxes_at, muxes_same}
use Rattle.bit_rows.proofs.Numbering.{first_tied}
use Rattle.bit_rows.proofs.bit_table.BitRows.new.Goals as goal

pub number_bits-requires-clause-few : goal.number_bits-requires-clause-few
number_bits-requires-clause-few c =
    let few = not_more bit_first first_tied c.args.pairs.items c.in_ok-sorted.sorted.items c.in_ok-sorted.ensures in omega (arith, few, ap length c.deref-2.ensures.value)

pub rows_by_bit-requires-clause-few : goal.rows_by_bit-requires-clause-few
rows_by_bit-requires-clause-few c =
    let few = not_more bit_first first_tied c.args.pairs.items c.in_ok-sorted.sorted.items c.in_ok-sorted.ensures in omega (arith, few, ap length c.deref-3.ensures.value)

pub rows_by_bit-requires-clause-bits : goal.rows_by_bit-requires-clause-bits
rows_by_bit-requires-clause-bits c =
    let few = not_more bit_first first_tied c.args.pairs.items c.in_ok-sorted.sorted.items c.in_ok-sorted.ensures in
    let are : AreNumbered c.deref-2.result.now c.in_ok-numbered.numbered.bits.items c.in_ok-numbered.numbered.numbers.items = c.in_ok-numbered.ensures in
    omega (arith, few, are.few, ap length c.deref-2.ensures.value)

pub invariant_of-result : goal.invariant_of-result
invariant_of-result c =
    let pairs = c.args.pairs.items in
    let sorted = c.in_ok-sorted.sorted.items in
    let bits = c.in_ok-numbered.numbered.bits.items in
    let count = c.args.count in
    let rows : c.in_ok-by_mux.by_mux ≡ bits_by_mux count pairs = rw c.deref.ensures.value at c.in_ok-by_mux.ensures in
    let in_order : InOrderOnce bit_first pairs sorted = c.in_ok-sorted.ensures in
    let few = not_more bit_first first_tied pairs sorted in_order in
    let are : AreNumbered sorted bits c.in_ok-numbered.numbered.numbers.items = rw c.deref-2.ensures.value at c.in_ok-numbered.ensures in
    let by_bit : c.in_ok-by_bit.by_bit ≡ map (muxes_at sorted) bits = rw c.deref-3.ensures.value at c.in_ok-by_bit.ensures in
    let whole : AreInverse (bits_by_mux count pairs) bits c.in_ok-by_bit.by_bit = record {
      bits = all_bits count pairs sorted c.requires.known in_order bits c.in_ok-numbered.numbered.numbers.items are;
      by_bit = by_bit ∙ (λ j. map (λ b. muxes_same count pairs sorted c.requires.known in_order b j) bits);
      few = omega (arith, few, are.few);
    } in
    subst (λ (r : List (List DeviceBit)). AreInverse r bits c.in_ok-by_bit.by_bit) (sym rows) whole

pub returns : goal.returns
returns c = rw c.deref.ensures.value at c.in_ok-by_mux.ensures
