use Rattle.std.proofs.Common.{refl}
use Rattle.answers.specs.Answers.{WriteFault}
use Rattle.run_end_laws.proofs.Refused.{tells}
use Rattle.run_end_laws.proofs.write_fault_is_told.Goals as goal

pub returns : goal.returns
returns c = λ files reading faults output now new none. tells files reading faults output none WriteFault now new refl
