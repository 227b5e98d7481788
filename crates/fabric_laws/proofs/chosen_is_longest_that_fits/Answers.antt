use Rattle.fabric_laws.proofs.Chosen.{best_list}
use Rattle.fabric_laws.proofs.chosen_is_longest_that_fits.Goals as goal

pub returns : goal.returns
returns g c = best_list
