-- What is asked of a circuit so that a fault of one copy is masked. (Our own.)
use Rattle.links.specs.Links.{IsClean}
use Rattle.circuit.specs.Circuits.{Circuit}
use Rattle.circuit.specs.Triplicated.{IsTriplicated}
use Rattle.circuit.specs.WellFormed.{IsWellFormed}

-- its routing is clean, and it is well formed and triplicated
pub record IsSoundCircuit (c : Circuit) : Type 0 where
  pub clean : IsClean c.routing
  pub formed : IsWellFormed c
  pub triplicated : IsTriplicated c
