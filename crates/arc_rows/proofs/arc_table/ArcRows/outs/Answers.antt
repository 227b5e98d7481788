use Rattle.std.proofs.Common.{◌≡◌, length, Some, ap, ◌∙◌, arith}
use Rattle.std.specs.Prelude.{slice_get, ◌==◌}
use Rattle.graph_lists.specs.Places.{places}
use Rattle.arc_rows.specs.ArcTable.{ArcTable}
use Rattle.place_rows.proofs.RowsBy.{row_by}
use Rattle.arc_rows.proofs.arc_table.ArcRows.outs.Goals as goal

pub returns : goal.returns
returns c =
    let inside = c.self.inside in
    let count : length inside.outs ≡ c.args.self.now.wires = ap (λ (t : ArcTable). t.wires) c.self.view_is in
    let arcs : inside.arcs.items ≡ c.args.self.now.arcs = ap (λ (t : ArcTable). t.arcs) c.self.view_is in
    let row = row_by (λ a. a.source) (length inside.outs) inside.arcs.items c.args.w (omega arith) in
    let found : Some c.row.result.now ≡ Some (places (λ a. a.source == c.args.w) inside.arcs.items) = c.row.ensures ∙ ap (λ rows. slice_get rows c.args.w) c.self.invariant.by_source ∙ row in
    let same : c.row.result.now ≡ places (λ a. a.source == c.args.w) inside.arcs.items = cc in
    same ∙ ap (λ arcs. places (λ a. a.source == c.args.w) arcs) arcs
