use Rattle.run_end_laws.proofs.Untouched.{untouched}
use Rattle.run_end_laws.proofs.only_hardening_writes.Goals as goal

pub returns : goal.returns
returns c = λ files reading faults output status now new other. untouched files reading faults other output status now new
