use Rattle.size_laws.proofs.Counts.{twice_overlaps, once_does_not}
use Rattle.size_laws.proofs.outputs_that_stand_twice_overlap.Goals as goal

pub returns-clause-twice : goal.returns-clause-twice
returns-clause-twice c = twice_overlaps

pub returns-clause-once : goal.returns-clause-once
returns-clause-once c = once_does_not
