use Rattle.std.proofs.Common.{◌≡◌, ◌-◌, length, ap, ◌∙◌, arith}
use Rattle.bit_rows.specs.MuxBits.{MuxBit}
use Rattle.bit_rows.specs.Numbered.{with_last}
use Rattle.bit_rows.proofs.Numbering.{number_one}
use Rattle.bit_rows.proofs.numbered.number_bits.Goals as goal

pub loop-pair-preserved : goal.loop-pair-preserved
loop-pair-preserved c =
    let pair = c.pair-item.result in
    let bit : c.pair.inside.bit ≡ pair.bit = ap (λ (p : MuxBit). p.bit) c.pair.view_is in
    let bits : c.push_new.new.bits.items ≡ with_last c.loop-pair.bits.items pair.bit = c.in_ok-push_new.ensures ∙ ap (with_last c.loop-pair.bits.items) bit in
    let next = number_one c.args.pairs.now c.loop-pair.pair-index pair c.loop-pair.bits.items c.loop-pair.numbers.items c.requires.order (omega arith) c.pair-item.is c.loop-pair.invariant.are in
    let number : c.from_u32.result ≡ length c.push_new.new.bits.items - 1 = omega arith in
    record {
      are = rw (c.in_ok-push.ensures.items, number, bits) next.are;
      few = omega (arith, ap length bits, next.few, c.loop-pair.invariant.few);
    }
