use Rattle.graph_numbers.proofs.Sorted.{order_kept}
use Rattle.graph_numbers.proofs.order_is_kept.Goals as goal

pub returns : goal.returns
returns c = order_kept
