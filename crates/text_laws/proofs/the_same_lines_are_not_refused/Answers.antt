use Rattle.text_laws.proofs.SameFaults.{not_refused}
use Rattle.text_laws.proofs.the_same_lines_are_not_refused.Goals as goal

pub returns : goal.returns
returns c = not_refused
