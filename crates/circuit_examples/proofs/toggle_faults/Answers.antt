use Rattle.circuit_examples.proofs.Faulty.{one_copy, two_copies}
use Rattle.circuit_examples.proofs.toggle_faults.Goals as goal

pub returns : goal.returns
returns g = record { one = one_copy; two = two_copies }
