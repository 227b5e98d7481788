use Rattle.attempt_examples.specs.TwoTiles.{job, state, step}
use Rattle.attempt_examples.proofs.TwoTiles.{candidate}
use Rattle.placement_laws.proofs.Testing.{candidate_is_tested}
use Rattle.answer_examples.proofs.slice_may_move.Goals as goal

pub returns : goal.returns
returns c = (candidate_is_tested job state step).0 candidate
