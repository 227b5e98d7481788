use Rattle.number_lists.proofs.Views.{kept}
use Rattle.number_lists.proofs.the_graph_keeps_its_numbers.Goals as goal

pub returns : goal.returns
returns c = kept
