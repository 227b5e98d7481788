use Rattle.links.proofs.Below.{below_sound, below_complete}
use Rattle.links.proofs.below_is_listed.Goals as goal
use Rattle.links.specs.Below.{below}

pub returns : goal.returns
returns c = λ r w. (below r.links w, λ v. (λ i. below_sound r.links w v i, λ b. below_complete r.links b))
