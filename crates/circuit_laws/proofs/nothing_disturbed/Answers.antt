use Rattle.circuit.specs.Faults.{no_fault}
use Rattle.circuit_laws.proofs.Quiet.{run_under}
use Rattle.circuit_laws.proofs.nothing_disturbed.Goals as goal

pub returns : goal.returns
returns g = λ c f quiet calm course run. (
  run_under c no_fault f (record { disturbed = λ a i. absurd (quiet a i); touched = λ name i. absurd (calm name i) }) course.start course.input course.cycles run,
  run_under c f no_fault (record { disturbed = λ a i. absurd i; touched = λ name i. absurd i }) course.start course.input course.cycles run,
)
