use Rattle.cram_image.proofs.Members.{same_set}
use Rattle.cram_image.proofs.laws.same_members_are_same_bits.Goals as goal

pub returns : goal.returns
returns c = same_set
