use Rattle.number_lists.proofs.Given.{given}
use Rattle.number_lists.proofs.rows_give_the_lists.Goals as goal

pub returns : goal.returns
returns c = given
