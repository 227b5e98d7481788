use Rattle.circuit_examples.proofs.Broken.{copies_unlike}
use Rattle.circuit_examples.proofs.copies_differ.Goals as goal

pub returns : goal.returns
returns g = copies_unlike
