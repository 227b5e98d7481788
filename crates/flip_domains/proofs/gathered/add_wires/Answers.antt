use Rattle.std.proofs.Common.{◌≡◌, Option, Some, subst}
use Rattle.records.specs.Side.{Domain}
use Rattle.flip_domains.specs.Sets.{Gains}
use Rattle.flip_domains.proofs.Flipping.{WireHas}
use Rattle.flip_domains.proofs.Gaining.{gains_more}
use Rattle.flip_domains.proofs.gathered.add_wires.Goals as goal

pub loop-w-preserved : goal.loop-w-preserved
loop-w-preserved c =
    gains_more (WireHas c.args.labels.now) c.args.wires.now c.loop-w.w-index c.w-item.result c.args.domains.now c.loop-w.domains c.add_some.new.self c.loop-w-test.true c.w-item.is c.loop-w.invariant
    (subst (λ (o : Option Domain). Gains c.loop-w.domains c.add_some.new.self (λ e. o ≡ Some e)) c.of.ensures c.add_some.ensures)
