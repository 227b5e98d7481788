use Rattle.circuit_laws.proofs.OutputsRight.{two_of_three}
use Rattle.circuit_laws.proofs.two_of_three.Goals as goal

pub returns : goal.returns
returns g = λ c s f within. two_of_three c (record { clean = s.clean; formed = s.formed }) s.triplicated f within
