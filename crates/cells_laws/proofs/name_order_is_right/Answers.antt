use Rattle.cells_laws.proofs.NameOrder.{name_order_members, name_order}
use Rattle.cells_laws.proofs.name_order_is_right.Goals as goal

pub returns : goal.returns
returns g c = record { members = name_order_members; order = name_order }
