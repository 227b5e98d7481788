use Rattle.attempt_examples.proofs.RippedSlice.{answer}
use Rattle.attempt_examples.proofs.ripped_slice_is_routed_again.Goals as goal

pub returns : goal.returns
returns c = answer
