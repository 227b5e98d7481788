use Rattle.row_laws.proofs.MuxOrder.{in_mux_order}
use Rattle.row_laws.proofs.arcs_of_a_device_are_in_mux_order.Goals as goal

pub returns : goal.returns
returns c = λ device wires. in_mux_order device wires
