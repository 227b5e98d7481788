use Rattle.words.proofs.Found.{none_found}
use Rattle.words.proofs.no_fault_is_faultless.Goals as goal

pub returns : goal.returns
returns g c = none_found
