use Rattle.std.proofs.Common.{length, ap, arith}
use Rattle.copy_checks.proofs.Pinned.{pads_told}
use Rattle.copy_checks.proofs.pads.pad_pins.Goals as goal

pub returns : goal.returns
returns c = pads_told c.args.parts.now c.loop-place.place c.loop-place.pads (let many = ap (λ ps. length ps) c.pins-all.ensures.all in omega arith) c.loop-place.invariant
