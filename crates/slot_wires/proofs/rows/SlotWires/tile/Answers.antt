use Rattle.std.proofs.Common.{◌<◌, ◌∙◌, length, ap, sym, arith, Some, []}
use Rattle.std.proofs.lemmas.Option.{slice_get-get_or}
use Rattle.grouped.specs.Rows.{rows_from}
use Rattle.grouped.proofs.Cut.{length-rows_from, row_is_part}
use Rattle.slot_wires.proofs.rows.SlotWires.tile.Goals as goal

pub row_at-requires-clause-known : goal.row_at-requires-clause-known
row_at-requires-clause-known c =
    let inside = c.self.inside in
    let long = length-rows_from 0 inside.ends.items inside.numbers.items in
    let view = ap length c.self.view_is in
    rw (c.to_u32.ensures, c.deref.ensures.value) (omega (arith, long, view))

pub returns : goal.returns
returns c =
    let inside = c.self.inside in
    let ends = inside.ends.items in
    let numbers = inside.numbers.items in
    let n = c.args.tile in
    let long = length-rows_from 0 ends numbers in
    let view = ap length c.self.view_is in
    let below : n < length (rows_from 0 ends numbers) = omega (arith, view) in
    let here = slice_get-get_or (rows_from 0 ends numbers) n [] below ∙ ap Some (row_is_part 0 ends numbers n [] (omega (arith, long))) in
    rw (← c.self.view_is, c.row_at.ensures, c.deref.ensures.value, c.deref-2.ensures.value, c.to_u32.ensures) (sym here)
