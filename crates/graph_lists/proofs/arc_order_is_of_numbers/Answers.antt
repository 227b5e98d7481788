use Rattle.graph_lists.proofs.BitsOf.{numbers_in_order}
use Rattle.graph_lists.proofs.arc_order_is_of_numbers.Goals as goal

pub returns : goal.returns
returns c = λ named arcs are. numbers_in_order named arcs are
