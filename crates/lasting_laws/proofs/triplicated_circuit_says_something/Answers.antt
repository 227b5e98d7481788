use Rattle.lasting_laws.proofs.Lasting.{something}
use Rattle.lasting_laws.proofs.triplicated_circuit_says_something.Goals as goal

pub returns : goal.returns
returns c = λ k s. something k (record { clean = s.clean; formed = s.formed }) s.triplicated
