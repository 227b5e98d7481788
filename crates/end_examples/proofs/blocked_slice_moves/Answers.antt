use Rattle.end_examples.proofs.Moves.{slice_moves}
use Rattle.end_examples.proofs.blocked_slice_moves.Goals as goal

pub returns : goal.returns
returns c = slice_moves
