use Rattle.std.proofs.Common.{◌≡◌, Bool, true, List, ap, subst, ◌∙◌}
use Rattle.std.specs.List.{list_any}
use Rattle.patterns.specs.Bits.{DeviceBit, bits_of_list}
use Rattle.circuit.specs.Cells.{SliceCell}
use Rattle.rr_ids.specs.Domains.{domain_of}
use Rattle.flip_domains.specs.Sets.{Gains}
use Rattle.flip_domains.proofs.Flipping.{SliceHas}
use Rattle.flip_domains.proofs.Gaining.{gains_more}
use Rattle.flip_domains.proofs.gathered.add_slices.Goals as goal

pub loop-slice-preserved : goal.loop-slice-preserved
loop-slice-preserved c =
    let flips = bits_of_list c.args.flips.now in
    let old = c.loop-slice.domains in
    let new = c.add_if.new.self in
    gains_more (SliceHas flips) c.args.slices.now c.loop-slice.slice-index c.slice-item.result c.args.domains.now old new c.loop-slice-test.true c.slice-item.is c.loop-slice.invariant
    (subst (λ (cell : SliceCell). Gains old new (SliceHas flips cell)) c.slice.view_is
    (subst (λ (b : Bool). Gains old new (λ e. (b ≡ true) × (domain_of c.slice.inside.domain ≡ e)))
    (c.is_one_among-is_touched.ensures ∙ ap (λ (bs : List DeviceBit). list_any flips bs) c.as_slice.ensures) c.add_if.ensures))
