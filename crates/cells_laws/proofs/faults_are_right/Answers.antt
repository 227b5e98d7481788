use Rattle.cells_laws.proofs.Faults.{accepted_cells, cells_accepted, cells_refused}
use Rattle.cells_laws.proofs.faults_are_right.Goals as goal

pub returns : goal.returns
returns c = record { accepted = accepted_cells; only_accepted = cells_accepted; refused = cells_refused }
