use Rattle.fixed_links.proofs.Standing.{links_are, outputs_are}
use Rattle.fixed_links.proofs.laws.slots_give_the_links.Goals as goal

pub returns-clause-links : goal.returns-clause-links
returns-clause-links c = links_are

pub returns-clause-outputs : goal.returns-clause-outputs
returns-clause-outputs c = outputs_are
