use Rattle.circuit_laws.proofs.OutputsRight.{masked}
use Rattle.circuit_laws.proofs.masking.Goals as goal

pub returns : goal.returns
returns g = λ c s f within. masked c (record { clean = s.clean; formed = s.formed }) s.triplicated f within
