use Rattle.std.proofs.Common.{◌≡◌, length}
use Rattle.place_rows.specs.PlaceRows.{rows_by}
use Rattle.place_rows.proofs.RowsBy.{rows_long, rows_own}
use Rattle.mux_rows.proofs.mux_table.MuxRows.new.Goals as goal

pub invariant_of-result : goal.invariant_of-result
invariant_of-result c =
    let muxes = c.args.muxes.items in
    let of_tile : c.in_ok-of_tile.of_tile ≡ rows_by (λ m. m.tile) c.args.tiles muxes = rw c.deref.ensures.value at c.in_ok-of_tile.ensures in
    let of_sink : c.in_ok-of_sink.of_sink ≡ rows_by (λ m. m.sink) c.args.wires muxes = rw c.deref-2.ensures.value at c.in_ok-of_sink.ensures in
    record {
      by_tile = rows_own (λ m. m.tile) c.args.tiles (length c.in_ok-of_tile.of_tile) muxes c.in_ok-of_tile.of_tile of_tile (rows_long (λ m. m.tile) c.args.tiles muxes c.in_ok-of_tile.of_tile of_tile);
      by_sink = rows_own (λ m. m.sink) c.args.wires (length c.in_ok-of_sink.of_sink) muxes c.in_ok-of_sink.of_sink of_sink (rows_long (λ m. m.sink) c.args.wires muxes c.in_ok-of_sink.of_sink of_sink);
    }

pub returns : goal.returns
returns c =
    let tiles : length c.in_ok-of_tile.of_tile ≡ c.args.tiles = rows_long (λ m. m.tile) c.args.tiles c.deref.result.now c.in_ok-of_tile.of_tile c.in_ok-of_tile.ensures in
    let wires : length c.in_ok-of_sink.of_sink ≡ c.args.wires = rows_long (λ m. m.sink) c.args.wires c.deref-2.result.now c.in_ok-of_sink.of_sink c.in_ok-of_sink.ensures in
    λ j. record { tiles = tiles j; wires = wires j; muxes = c.args.muxes.items }
