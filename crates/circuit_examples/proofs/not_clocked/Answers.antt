use Rattle.circuit_examples.proofs.Broken.{has_no_clock}
use Rattle.circuit_examples.proofs.not_clocked.Goals as goal

pub returns : goal.returns
returns g = has_no_clock
