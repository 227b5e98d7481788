use Rattle.circuit_examples.proofs.Broken.{fails_masking}
use Rattle.circuit_examples.proofs.not_masking.Goals as goal

pub returns : goal.returns
returns g = fails_masking
