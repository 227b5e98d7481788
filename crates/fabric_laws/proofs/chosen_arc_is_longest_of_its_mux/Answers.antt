use Rattle.fabric_laws.proofs.Chosen.{chosen_arc}
use Rattle.fabric_laws.proofs.chosen_arc_is_longest_of_its_mux.Goals as goal

pub returns : goal.returns
returns c = chosen_arc
