use Rattle.graph_numbers.proofs.Whole.{whole}
use Rattle.graph_numbers.proofs.numbers_are_graph.Goals as goal

pub returns : goal.returns
returns c = whole
