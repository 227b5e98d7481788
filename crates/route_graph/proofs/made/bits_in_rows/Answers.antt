use Rattle.std.proofs.Common.{List, ap, arith, length, subst}
use Rattle.std.specs.Prelude.{IfOk}
use Rattle.fabric.specs.Graph.{Graph}
use Rattle.device_numbers.specs.Numbered.{Numbered}
use Rattle.mux_rows.specs.MuxTable.{MuxNumbers}
use Rattle.record_laws.specs.Records.{AreMuxesOf}
use Rattle.row_laws.specs.BitRows.{AreBitRows}
use Rattle.route_graph.proofs.made.bits_in_rows.Goals as goal

pub bits_of_graph-requires : goal.bits_of_graph-requires
bits_of_graph-requires c = let e = ap length c.muxes.ensures in omega arith

pub returns : goal.returns
returns c =
    subst (λ (ms : List MuxNumbers). IfOk c.bits_of_graph.result (λ bits. (g : Graph) → AreMuxesOf c.args.device.now.device g ms → AreBitRows g bits)) c.muxes.ensures
    (subst (λ (n : Numbered). IfOk c.bits_of_graph.result (λ bits. (g : Graph) → AreMuxesOf n.device g c.muxes.result.now → AreBitRows g bits)) c.in_ok-moved.ensures c.bits_of_graph.ensures)
