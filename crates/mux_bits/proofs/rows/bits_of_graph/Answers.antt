use Rattle.std.proofs.Common.{List, subst, sym}
use Rattle.fabric.specs.InOrder.{IsRising}
use Rattle.words.specs.Members.{In}
use Rattle.bit_rows.specs.MuxBits.{MuxBit, mux_first}
use Rattle.record_laws.proofs.Pairs.{all_below, all_rise}
use Rattle.record_laws.proofs.Rows.{rows_are}
use Rattle.mux_bits.proofs.rows.bits_of_graph.Goals as goal

pub new-requires-clause-order : goal.new-requires-clause-order
new-requires-clause-order g c =
    subst (IsRising mux_first) (sym c.in_ok-pairs.ensures.pairs) (all_rise (g.D.TileBits.device c.args.device.now) 0 c.args.muxes.now)

pub new-requires-clause-known : goal.new-requires-clause-known
new-requires-clause-known g c = λ p i.
    all_below (g.D.TileBits.device c.args.device.now) c.args.muxes.now p (subst (λ (ps : List MuxBit). In ps p) c.in_ok-pairs.ensures.pairs i)

pub returns : goal.returns
returns g c = λ graph standing.
    rows_are (g.D.TileBits.device c.args.device.now) graph standing.is c.args.muxes.now standing.muxes_are c.in_ok-pairs.pairs.items c.in_ok-rows.rows c.in_ok-pairs.ensures.pairs c.in_ok-rows.ensures
