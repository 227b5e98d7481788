use Rattle.formed_examples.proofs.Texts.{profile_is, side_is, grid_read}
use Rattle.formed_examples.proofs.texts_are_read.Goals as goal

pub returns : goal.returns
returns c = record { profile = profile_is; side = side_is; grid = grid_read }
