use Rattle.run_ends.proofs.Answered.{answered}
use Rattle.run_ends.proofs.no_fault_is_answered.Goals as goal

pub returns : goal.returns
returns c = λ files reading faults output status now new none. answered files reading faults output none status now new
