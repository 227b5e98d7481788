use Rattle.std.proofs.Common.{◌≡◌, length, Some, ap, ◌∙◌, arith}
use Rattle.std.specs.Prelude.{slice_get, ◌==◌}
use Rattle.graph_lists.specs.Places.{places}
use Rattle.place_rows.proofs.RowsBy.{row_by}
use Rattle.mux_rows.specs.MuxTable.{MuxTable}
use Rattle.mux_rows.proofs.mux_table.MuxRows.of_tile.Goals as goal

pub returns : goal.returns
returns c =
    let inside = c.self.inside in
    let count : length inside.of_tile ≡ c.args.self.now.tiles = ap (λ (t : MuxTable). t.tiles) c.self.view_is in
    let muxes : inside.muxes.items ≡ c.args.self.now.muxes = ap (λ (t : MuxTable). t.muxes) c.self.view_is in
    let row = row_by (λ m. m.tile) (length inside.of_tile) inside.muxes.items c.args.t (omega arith) in
    let found : Some c.row.result.now ≡ Some (places (λ m. m.tile == c.args.t) inside.muxes.items) = c.row.ensures ∙ ap (λ rows. slice_get rows c.args.t) c.self.invariant.by_tile ∙ row in
    let same : c.row.result.now ≡ places (λ m. m.tile == c.args.t) inside.muxes.items = cc in
    same ∙ ap (λ muxes. places (λ m. m.tile == c.args.t) muxes) muxes
