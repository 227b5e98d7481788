use Rattle.std.proofs.Common.{◌∙◌, ap, length, sym}
use Rattle.std.proofs.lemmas.List.{length-map}
use Rattle.open_rows.specs.Rows.{Rows}
use Rattle.open_rows.specs.Spans.{part_of}
use Rattle.open_rows.proofs.Parts.{length-room_of}
use Rattle.open_rows.proofs.rows.OpenRows.len.Goals as goal

pub returns-clause-rows : goal.returns-clause-rows
returns-clause-rows g c =
    let inside = c.self.inside in
    ap length c.as_slice.ensures.value ∙ sym (length-map inside.spans.items (part_of inside.items.items)) ∙ ap (λ (r : Rows _). length r.rows) c.self.view_is

pub returns-clause-room : goal.returns-clause-room
returns-clause-room g c =
    let inside = c.self.inside in
    ap length c.as_slice.ensures.value ∙ sym (length-room_of inside.spans.items (length inside.items.items)) ∙ ap (λ (r : Rows _). length r.room) c.self.view_is
