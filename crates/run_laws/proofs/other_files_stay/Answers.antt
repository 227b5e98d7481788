use Rattle.run_laws.proofs.Files.{stays}
use Rattle.run_laws.proofs.other_files_stay.Goals as goal

pub returns : goal.returns
returns c = λ files reading faults output status now new end name none. stays files reading faults name none output status now new end
