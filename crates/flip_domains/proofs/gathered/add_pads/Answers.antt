use Rattle.std.proofs.Common.{◌≡◌, Bool, true, List, ap, subst, ◌∙◌}
use Rattle.std.specs.List.{list_any}
use Rattle.patterns.specs.Bits.{DeviceBit, bits_of_list}
use Rattle.circuit.specs.Cells.{PadCell}
use Rattle.rr_ids.specs.Domains.{domain_of}
use Rattle.flip_domains.specs.Sets.{Gains}
use Rattle.flip_domains.proofs.Flipping.{PadHas}
use Rattle.flip_domains.proofs.Gaining.{gains_more}
use Rattle.flip_domains.proofs.gathered.add_pads.Goals as goal

pub loop-pad-preserved : goal.loop-pad-preserved
loop-pad-preserved c =
    let flips = bits_of_list c.args.flips.now in
    let old = c.loop-pad.domains in
    let new = c.add_if.new.self in
    gains_more (PadHas flips) c.args.pads.now c.loop-pad.pad-index c.pad-item.result c.args.domains.now old new c.loop-pad-test.true c.pad-item.is c.loop-pad.invariant
    (subst (λ (cell : PadCell). Gains old new (PadHas flips cell)) c.pad.view_is
    (subst (λ (b : Bool). Gains old new (λ e. (b ≡ true) × (domain_of c.pad.inside.domain ≡ e)))
    (c.is_one_among-is_touched.ensures ∙ ap (λ (bs : List DeviceBit). list_any flips bs) c.as_slice.ensures) c.add_if.ensures))
