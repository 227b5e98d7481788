use Rattle.row_laws.proofs.ArcRows.{arcs_are}
use Rattle.row_laws.proofs.arcs_in_order_are_the_arcs_of_the_graph.Goals as goal

pub returns : goal.returns
returns c = λ device g is arcs are. arcs_are device g is arcs are
