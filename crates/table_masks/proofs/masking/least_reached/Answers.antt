use Rattle.std.proofs.Common.{◌<◌, ◌^◌, length, below_more, refl, arith}
use Rattle.std.proofs.lemmas.Bool.{false≢true}
use Rattle.table_masks.proofs.Reached.{reached}
use Rattle.table_masks.proofs.masking.least_reached.Goals as goal

pub returns-then-fails_in : goal.returns-then-fails_in
returns-then-fails_in c =
    let below : c.loop-after.after < 2 ^ length c.args.pins.now = omega (arith, c.addresses-after-end.ensures) in
    reached c.args.word c.args.pins.now c.args.own c.loop-after.after c.from.result c.from.ensures below (c.if-fails_in.ensures.0 refl) c.loop-after.invariant

-- one address more isn't reached
pub loop-after-preserved : goal.loop-after-preserved
loop-after-preserved c = below_more _ _ c.loop-after.invariant (λ f. false≢true (c.if-fails_in.ensures.1 f))

pub returns : goal.returns
returns c = λ n below f. c.loop-after.invariant n (omega (arith, c.addresses-after-end.ensures)) f
