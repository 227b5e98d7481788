use Rattle.fabric_laws.proofs.Graphs.{one_graph}
use Rattle.fabric_laws.proofs.graph_is_determined.Goals as goal

pub returns : goal.returns
returns c = one_graph
