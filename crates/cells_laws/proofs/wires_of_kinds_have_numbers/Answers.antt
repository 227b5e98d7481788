use Rattle.cells_laws.proofs.Wires.{slices_numbered, pads_numbered}
use Rattle.cells_laws.proofs.wires_of_kinds_have_numbers.Goals as goal

pub returns : goal.returns
returns c = record { slices = slices_numbered; pads = pads_numbered }
