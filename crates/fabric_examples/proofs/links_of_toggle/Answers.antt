use Rattle.std.proofs.Common.{refl}
use Rattle.std.specs.Fmt.{digits}
use Rattle.fabric_examples.proofs.links_of_toggle.Goals as goal

pub returns : goal.returns
unfolding digits
returns c = refl
