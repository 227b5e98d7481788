use Rattle.std.proofs.Common.{◌≡◌, ◌<◌, ◌+◌, ◌≤◌, ℕ, ◌∙◌, length, ap, sym, subst, arith, Some, get_or}
use Rattle.std.proofs.lemmas.List.{length-map}
use Rattle.open_rows.specs.Rows.{Rows}
use Rattle.open_rows.specs.Spans.{IsSpanAt, part_of, parts_of}
use Rattle.open_rows.proofs.Parts.{ends_within, row_at}
use Rattle.open_rows.proofs.rows.OpenRows.row.Goals as goal

pub part-requires : goal.part-requires
part-requires g c =
    let inside = c.self.inside in
    let long = length-map inside.spans.items (part_of inside.items.items) in
    let view = ap (λ (r : Rows _). length r.rows) c.self.view_is in
    let n = c.to_u32.ensures in
    let k = c.requires.known in
    let below : c.to_u32.result < length inside.spans.items = omega arith in
    let within = ends_within inside.spans.items (length inside.items.items) c.to_u32.result c.index.result.now c.self.invariant.apart below (sym c.index.ensures) in
    let lent = ap length c.deref.ensures.value in
    record { within = omega arith }

pub returns : goal.returns
returns g c =
    let inside = c.self.inside in
    let long = length-map inside.spans.items (part_of inside.items.items) in
    let view = ap (λ (r : Rows _). length r.rows) c.self.view_is in
    let n = c.to_u32.ensures in
    let k = c.requires.known in
    let below : c.to_u32.result < length inside.spans.items = omega arith in
    let here = row_at inside.items.items inside.spans.items c.to_u32.result c.index.result.now below (sym (c.index.ensures)) in
    rw (← c.self.view_is, c.part.ensures, c.deref.ensures.value, ← c.to_u32.ensures) (sym here)
