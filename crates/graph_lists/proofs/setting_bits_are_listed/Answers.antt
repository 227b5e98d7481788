use Rattle.graph_lists.specs.BitLists.{setting_bits}
use Rattle.graph_lists.proofs.BitsOf.{listed_from, listed_to}
use Rattle.graph_lists.proofs.setting_bits_are_listed.Goals as goal

pub returns : goal.returns
returns c = λ g b. ((λ h. listed_from (setting_bits g) b h), (λ h. listed_to (setting_bits g) b h))
