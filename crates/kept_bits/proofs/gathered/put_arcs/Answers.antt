use Rattle.std.proofs.Common.{flat_map}
use Rattle.record_laws.specs.KeptBits.{arc_bits, put_in}
use Rattle.kept_bits.proofs.Found.{next_arc}
use Rattle.kept_bits.proofs.gathered.put_arcs.Goals as goal

pub loop-arc-preserved : goal.loop-arc-preserved
loop-arc-preserved c =
    next_arc c.args.rules.now c.args.arcs.now c.loop-arc.arc-index c.arc-item.result c.loop-arc.bits.keys c.put_arc.new.bits.keys
    (put_in c.args.bits.now.keys (flat_map (arc_bits c.args.rules.now) c.args.arcs.now)) c.loop-arc-test.true c.arc-item.is c.loop-arc.invariant c.in_ok-put_arc.ensures
