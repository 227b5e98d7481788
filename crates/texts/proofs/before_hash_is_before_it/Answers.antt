use Rattle.texts.proofs.Slices.{before_hash_stands}
use Rattle.texts.proofs.before_hash_is_before_it.Goals as goal

pub returns : goal.returns
returns c = before_hash_stands
