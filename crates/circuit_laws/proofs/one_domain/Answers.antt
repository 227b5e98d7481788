use Rattle.circuit_laws.proofs.Domains.{wire_domain, cell_domain}
use Rattle.circuit_laws.proofs.one_domain.Goals as goal

pub returns : goal.returns
returns g = record { of_wires = wire_domain; of_cells = λ c formed name d e i j. cell_domain c.cells formed.names name d e i j }
