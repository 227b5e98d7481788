use Rattle.attempt_examples.proofs.TwoTiles.{candidate, first}
use Rattle.attempt_examples.proofs.slice_has_a_first_candidate.Goals as goal

pub returns-clause-candidate : goal.returns-clause-candidate
returns-clause-candidate c = candidate

pub returns-clause-first : goal.returns-clause-first
returns-clause-first c = first
