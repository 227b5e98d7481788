use Rattle.fabric_laws.proofs.Graphs.{has_graph}
use Rattle.fabric_laws.proofs.device_has_a_graph.Goals as goal

pub returns : goal.returns
returns c = has_graph
