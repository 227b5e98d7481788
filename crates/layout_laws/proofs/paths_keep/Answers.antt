use Rattle.layout_laws.proofs.Many.{paths_kept}
use Rattle.layout_laws.proofs.paths_keep.Goals as goal

pub returns : goal.returns
returns c = λ device read y paths once ready safe agree ok. (paths_kept device once read y ready safe agree paths ok).kept
