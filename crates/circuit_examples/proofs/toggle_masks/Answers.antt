use Rattle.circuit_examples.proofs.Toggling.{masks}
use Rattle.circuit_examples.proofs.toggle_masks.Goals as goal

pub returns : goal.returns
returns g = masks
