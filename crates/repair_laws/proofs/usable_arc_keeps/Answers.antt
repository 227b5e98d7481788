use Rattle.std.proofs.Common.{[], ◌∷◌}
use Rattle.links.specs.Links.{here}
use Rattle.repair_laws.proofs.Path.{are_kept, path_grows}
use Rattle.repair_laws.proofs.Soundness.{sound}
use Rattle.repair_laws.proofs.usable_arc_keeps.Goals as goal

pub returns : goal.returns
returns c = λ device t a ready safe use_a from.
    are_kept t (a ∷ []) (path_grows t (sound device t ready) safe (a ∷ []) a.sink (from, use_a, here) ((λ b i. absurd i), tt))
