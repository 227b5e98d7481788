use Rattle.circuit_examples.proofs.Toggling.{toggles}
use Rattle.circuit_examples.proofs.toggle_toggles.Goals as goal

pub returns : goal.returns
returns g = toggles
