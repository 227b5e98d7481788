use Rattle.circuit_examples.proofs.Rerouted.{rerouted_sound, rerouted_triplicated, rerouted_same}
use Rattle.circuit_examples.proofs.rerouted_is_of_one_design.Goals as goal

pub returns : goal.returns
returns g = record { clean = rerouted_sound.clean; formed = rerouted_sound.formed; triplicated = rerouted_triplicated; same = rerouted_same }
