use Rattle.cram_image.proofs.Members.{members_told}
use Rattle.cram_image.proofs.laws.bits_are_members.Goals as goal

pub returns : goal.returns
returns c = members_told
