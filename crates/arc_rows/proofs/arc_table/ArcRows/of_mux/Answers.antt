use Rattle.std.proofs.Common.{◌≡◌, length, Some, ap, ◌∙◌, arith}
use Rattle.std.specs.Prelude.{slice_get, ◌==◌}
use Rattle.graph_lists.specs.Places.{places}
use Rattle.arc_rows.specs.ArcTable.{ArcTable}
use Rattle.place_rows.proofs.RowsBy.{row_by}
use Rattle.arc_rows.proofs.arc_table.ArcRows.of_mux.Goals as goal

pub returns : goal.returns
returns c =
    let inside = c.self.inside in
    let count : length inside.of_mux ≡ c.args.self.now.muxes = ap (λ (t : ArcTable). t.muxes) c.self.view_is in
    let arcs : inside.arcs.items ≡ c.args.self.now.arcs = ap (λ (t : ArcTable). t.arcs) c.self.view_is in
    let row = row_by (λ a. a.mux) (length inside.of_mux) inside.arcs.items c.args.m (omega arith) in
    let found : Some c.row.result.now ≡ Some (places (λ a. a.mux == c.args.m) inside.arcs.items) = c.row.ensures ∙ ap (λ rows. slice_get rows c.args.m) c.self.invariant.by_mux ∙ row in
    let same : c.row.result.now ≡ places (λ a. a.mux == c.args.m) inside.arcs.items = cc in
    same ∙ ap (λ arcs. places (λ a. a.mux == c.args.m) arcs) arcs
