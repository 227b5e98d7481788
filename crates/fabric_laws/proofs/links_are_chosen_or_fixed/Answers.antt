use Rattle.fabric_laws.proofs.Chosen.{links_law}
use Rattle.fabric_laws.proofs.links_are_chosen_or_fixed.Goals as goal

pub returns : goal.returns
returns c = links_law
