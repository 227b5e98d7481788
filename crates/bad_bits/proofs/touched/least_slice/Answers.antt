use Rattle.std.proofs.Common.{option_copied, ap, ◌∙◌, arith}
use Rattle.patterns.specs.Bits.{bits_of_list}
use Rattle.rr_ids.specs.Domains.{domain_of}
use Rattle.bad_bits.specs.Least.{lesser_of, slice_name}
use Rattle.bad_bits.proofs.Leasts.{names_all, names_more, names_none}
use Rattle.bad_bits.proofs.touched.least_slice.Goals as goal

pub loop-slice-init : goal.loop-slice-init
loop-slice-init c = names_none (slice_name (bits_of_list c.args.flips.now) (domain_of c.args.domain))

pub loop-slice-preserved : goal.loop-slice-preserved
loop-slice-preserved c =
    names_more (slice_name (bits_of_list c.args.flips.now) (domain_of c.args.domain)) c.args.slices.now c.loop-slice.slice-index c.slice-item.result (option_copied c.loop-slice.least) (option_copied c.lesser-least.result)
    c.loop-slice-test.true c.slice-item.is (c.lesser-least.ensures ∙ ap (lesser_of (option_copied c.loop-slice.least)) c.touched_slice.ensures) c.loop-slice.invariant

pub returns : goal.returns
returns c = names_all (slice_name (bits_of_list c.args.flips.now) (domain_of c.args.domain)) c.args.slices.now c.loop-slice.slice-index (option_copied c.loop-slice.least) (omega arith) c.loop-slice.invariant
