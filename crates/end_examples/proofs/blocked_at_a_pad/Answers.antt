use Rattle.end_examples.proofs.Blocked.{pad_ends}
use Rattle.end_examples.proofs.blocked_at_a_pad.Goals as goal

pub returns : goal.returns
returns c = pad_ends
