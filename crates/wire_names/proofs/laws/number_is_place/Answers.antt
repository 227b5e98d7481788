use Rattle.wire_names.proofs.Numbers.{number_place}
use Rattle.wire_names.proofs.laws.number_is_place.Goals as goal

pub returns : goal.returns
returns c = number_place
