use Rattle.circuit_examples.proofs.Broken.{reads_open_pin}
use Rattle.circuit_examples.proofs.open_pin.Goals as goal

pub returns : goal.returns
returns g = reads_open_pin
