use Rattle.std.proofs.Common.{◌≡◌, length}
use Rattle.place_rows.specs.PlaceRows.{rows_by}
use Rattle.place_rows.proofs.RowsBy.{rows_long, rows_own}
use Rattle.arc_rows.proofs.arc_table.with_rows.Goals as goal

pub invariant_of-result : goal.invariant_of-result
invariant_of-result c =
    let arcs = c.args.arcs.items in
    let outs : c.in_ok-outs.outs ≡ rows_by (λ a. a.source) c.args.wires arcs = rw c.deref.ensures.value at c.in_ok-outs.ensures in
    let ins : c.in_ok-ins.ins ≡ rows_by (λ a. a.sink) c.args.wires arcs = rw c.deref-2.ensures.value at c.in_ok-ins.ensures in
    let of_mux : c.in_ok-of_mux.of_mux ≡ rows_by (λ a. a.mux) c.args.muxes arcs = rw c.deref-3.ensures.value at c.in_ok-of_mux.ensures in
    let wires = rows_long (λ a. a.source) c.args.wires arcs c.in_ok-outs.outs outs in
    let muxes = rows_long (λ a. a.mux) c.args.muxes arcs c.in_ok-of_mux.of_mux of_mux in
    record {
      by_source = rows_own (λ a. a.source) c.args.wires (length c.in_ok-outs.outs) arcs c.in_ok-outs.outs outs wires;
      by_sink = rows_own (λ a. a.sink) c.args.wires (length c.in_ok-outs.outs) arcs c.in_ok-ins.ins ins wires;
      by_mux = rows_own (λ a. a.mux) c.args.muxes (length c.in_ok-of_mux.of_mux) arcs c.in_ok-of_mux.of_mux of_mux muxes;
    }

pub returns : goal.returns
returns c =
    let arcs = c.args.arcs.items in
    let wires : length c.in_ok-outs.outs ≡ c.args.wires = rows_long (λ a. a.source) c.args.wires c.deref.result.now c.in_ok-outs.outs c.in_ok-outs.ensures in
    let muxes : length c.in_ok-of_mux.of_mux ≡ c.args.muxes = rows_long (λ a. a.mux) c.args.muxes c.deref-3.result.now c.in_ok-of_mux.of_mux c.in_ok-of_mux.ensures in
    λ j. record { wires = wires j; muxes = muxes j; arcs = arcs }
