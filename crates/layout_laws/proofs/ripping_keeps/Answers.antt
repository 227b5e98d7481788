use Rattle.repair_laws.proofs.Numbers.{numbered}
use Rattle.layout_laws.proofs.Rest.{ripped_rest}
use Rattle.layout_laws.proofs.ripping_keeps.Goals as goal

pub returns : goal.returns
returns c = λ device k nets config rest is clean image agree h. ripped_rest k nets config rest (numbered device k.graph is) clean image agree h
