use Rattle.std.proofs.Common.{◌≡◌, length, ap, arith}
use Rattle.circuit.specs.Parts.{sources}
use Rattle.table_masks.proofs.LeastTable.{masks_told}
use Rattle.table_masks.proofs.tables.not_masking.Goals as goal

pub returns : goal.returns
returns c = λ circuit shows.
    let all : length c.sources-place-end.result.now ≡ length (sources c.args.parts.now) = ap (λ xs. length xs) c.sources-place-end.ensures.all in
    let end : c.loop-place.place ≡ length (sources c.args.parts.now) = omega arith in
    masks_told c.args.parts.now c.args.feeds.now c.args.triples.now c.args.read.now circuit shows c.loop-place.least c.loop-place.place end (c.loop-place.invariant circuit shows)
