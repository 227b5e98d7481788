use Rattle.formed_laws.proofs.Formed.{read_well_formed, read_entries, circuit_formed, read_listed, read_ready}
use Rattle.formed_laws.proofs.cells_are_well_formed.Goals as goal

pub returns : goal.returns
returns c = record { formed = read_well_formed; entries = read_entries; of_circuits = circuit_formed; listed = read_listed; ready = read_ready }
