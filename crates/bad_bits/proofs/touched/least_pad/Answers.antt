use Rattle.std.proofs.Common.{option_copied, ap, ◌∙◌, arith}
use Rattle.patterns.specs.Bits.{bits_of_list}
use Rattle.rr_ids.specs.Domains.{domain_of}
use Rattle.bad_bits.specs.Least.{lesser_of, pad_name}
use Rattle.bad_bits.proofs.Leasts.{names_all, names_more, names_none}
use Rattle.bad_bits.proofs.touched.least_pad.Goals as goal

pub loop-pad-init : goal.loop-pad-init
loop-pad-init c = names_none (pad_name (bits_of_list c.args.flips.now) (domain_of c.args.domain))

pub loop-pad-preserved : goal.loop-pad-preserved
loop-pad-preserved c =
    names_more (pad_name (bits_of_list c.args.flips.now) (domain_of c.args.domain)) c.args.pads.now c.loop-pad.pad-index c.pad-item.result (option_copied c.loop-pad.least) (option_copied c.lesser-least.result)
    c.loop-pad-test.true c.pad-item.is (c.lesser-least.ensures ∙ ap (lesser_of (option_copied c.loop-pad.least)) c.touched_pad.ensures) c.loop-pad.invariant

pub returns : goal.returns
returns c = names_all (pad_name (bits_of_list c.args.flips.now) (domain_of c.args.domain)) c.args.pads.now c.loop-pad.pad-index (option_copied c.loop-pad.least) (omega arith) c.loop-pad.invariant
