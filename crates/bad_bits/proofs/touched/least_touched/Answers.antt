use Rattle.std.proofs.Common.{◌≡◌, List, option_copied, ap, sym, subst, ◌∙◌}
use Rattle.patterns.specs.Bits.{bits_of_list}
use Rattle.circuit.specs.Cells.{Cells, PadCell, SliceCell}
use Rattle.fabric.specs.Wires.{name_cmp}
use Rattle.rr_ids.specs.Domains.{domain_of}
use Rattle.bad_bits.specs.Least.{LeastOrNone, NamesOf, TouchedOf, pad_name, slice_name}
use Rattle.bad_bits.proofs.TouchedCells.{least_cell}
use Rattle.bad_bits.proofs.touched.least_touched.Goals as goal

pub returns : goal.returns
returns c = λ apart.
    let cells = c.args.cells.now in
    let flips = bits_of_list c.args.flips.now in
    let d = domain_of c.args.domain in
    let slice = option_copied c.least_slice-slice.result in
    let pad = option_copied c.least_pad-pad.result in
    let slices : c.as_slice.result.now ≡ cells.slices = c.as_slice.ensures ∙ ap (λ (cs : Cells). cs.slices) c.cells.view_is in
    let pads : c.as_slice-2.result.now ≡ cells.pads = c.as_slice-2.ensures ∙ ap (λ (cs : Cells). cs.pads) c.cells.view_is in
    subst (λ o. LeastOrNone name_cmp (TouchedOf cells flips d) o) (sym c.lesser.ensures)
    (least_cell cells flips d slice pad apart
    (subst (λ (xs : List SliceCell). LeastOrNone name_cmp (NamesOf (slice_name flips d) xs) slice) slices c.least_slice-slice.ensures)
    (subst (λ (xs : List PadCell). LeastOrNone name_cmp (NamesOf (pad_name flips d) xs) pad) pads c.least_pad-pad.ensures))
