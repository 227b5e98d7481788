use Rattle.circuit.specs.Faults.{no_fault}
use Rattle.circuit_laws.proofs.Quiet.{run_under}
use Rattle.upset.specs.Configured.{circuit_of}
use Rattle.upset_laws.proofs.Unflipped.{none_disturbed, none_touched}
use Rattle.upset_laws.proofs.no_flips_change_nothing.Goals as goal

pub returns : goal.returns
returns g = λ k flips none f effect course run. (
  run_under (circuit_of k) no_fault f (record { disturbed = λ w i. absurd (none_disturbed k flips none f effect w i); touched = λ name i. absurd (none_touched k flips none f effect name i) }) course.start course.input course.cycles run,
  run_under (circuit_of k) f no_fault (record { disturbed = λ w i. absurd i; touched = λ name i. absurd i }) course.start course.input course.cycles run,
)
