use Rattle.circuit_examples.specs.Toggle.{inverted_majority}
use Rattle.circuit_examples.proofs.ToggleFormed.{toggle_clean, toggle_formed}
use Rattle.circuit_examples.proofs.ToggleMeets.{toggle_triplicated}
use Rattle.circuit_examples.proofs.toggle_is_triplicated.Goals as goal

pub returns : goal.returns
returns g = record { clean = toggle_clean inverted_majority; formed = toggle_formed inverted_majority; triplicated = toggle_triplicated }
