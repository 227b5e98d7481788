use Rattle.std.proofs.Common.{◌≡◌, length, Some, ap, ◌∙◌, arith}
use Rattle.std.specs.Prelude.{slice_get, ◌==◌}
use Rattle.graph_lists.specs.Places.{places}
use Rattle.place_rows.proofs.RowsBy.{row_by}
use Rattle.mux_rows.specs.MuxTable.{MuxTable}
use Rattle.mux_rows.proofs.mux_table.MuxRows.of_sink.Goals as goal

pub returns : goal.returns
returns c =
    let inside = c.self.inside in
    let count : length inside.of_sink ≡ c.args.self.now.wires = ap (λ (t : MuxTable). t.wires) c.self.view_is in
    let muxes : inside.muxes.items ≡ c.args.self.now.muxes = ap (λ (t : MuxTable). t.muxes) c.self.view_is in
    let row = row_by (λ m. m.sink) (length inside.of_sink) inside.muxes.items c.args.w (omega arith) in
    let found : Some c.row.result.now ≡ Some (places (λ m. m.sink == c.args.w) inside.muxes.items) = c.row.ensures ∙ ap (λ rows. slice_get rows c.args.w) c.self.invariant.by_sink ∙ row in
    let same : c.row.result.now ≡ places (λ m. m.sink == c.args.w) inside.muxes.items = cc in
    same ∙ ap (λ muxes. places (λ m. m.sink == c.args.w) muxes) muxes
