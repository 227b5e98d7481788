use Rattle.std.proofs.Common.{refl}
use Rattle.std.specs.Fmt.{digits}
use Rattle.fabric_examples.proofs.texts_of_wires.Goals as goal

pub returns-clause-local : goal.returns-clause-local
unfolding digits
returns-clause-local c = refl
