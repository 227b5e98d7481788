use Rattle.run_end_laws.proofs.Refused.{silent}
use Rattle.std.proofs.Common.{[], arith}
use Rattle.std.specs.Prelude.{codes}
use Rattle.run_end_laws.proofs.silent_write_faults_are_refused.Goals as goal

pub returns-clause-nothing : goal.returns-clause-nothing
returns-clause-nothing c = λ files reading faults output now none. silent files reading faults output now [] none (omega arith)

pub returns-clause-a_front : goal.returns-clause-a_front
returns-clause-a_front c = λ files reading faults output now none. silent files reading faults output now (codes "write fau") none (omega arith)
