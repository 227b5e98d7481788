use Rattle.wire_names.proofs.Numbers.{no_number}
use Rattle.wire_names.proofs.laws.no_number_is_not_there.Goals as goal

pub returns : goal.returns
returns c = no_number
