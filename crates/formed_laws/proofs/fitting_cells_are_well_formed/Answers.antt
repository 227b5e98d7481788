use Rattle.formed_laws.proofs.Formed.{read_fits, well_formed, formed_in_any_image, entries_in_domain, outputs_listed, ready}
use Rattle.formed_laws.proofs.fitting_cells_are_well_formed.Goals as goal

pub returns : goal.returns
returns c = record { read = read_fits; formed = well_formed; any_image = λ device k image fits. formed_in_any_image device k fits image; entries = entries_in_domain; listed = outputs_listed; ready = ready }
