use Rattle.cells_known.proofs.Names.{in_name_order}
use Rattle.cells_known.proofs.known.slices_stand_in_order.Goals as goal

pub returns : goal.returns
returns c = in_name_order
