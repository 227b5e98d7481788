use Rattle.number_lists.proofs.Within.{links_within, outputs_below}
use Rattle.number_lists.proofs.ends_have_numbers.Goals as goal

pub returns-clause-links : goal.returns-clause-links
returns-clause-links c = links_within

pub returns-clause-outputs : goal.returns-clause-outputs
returns-clause-outputs c = outputs_below
