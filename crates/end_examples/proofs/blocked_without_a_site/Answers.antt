use Rattle.end_examples.proofs.Sites.{full_ends}
use Rattle.end_examples.proofs.blocked_without_a_site.Goals as goal

pub returns : goal.returns
returns c = full_ends
