use Rattle.run_end_laws.proofs.Refused.{holds}
use Rattle.run_end_laws.proofs.failed_output_leaves_the_answer.Goals as goal

pub returns : goal.returns
returns c = λ files reading faults output status now new reads writes. holds files reading faults output reads writes status now new
