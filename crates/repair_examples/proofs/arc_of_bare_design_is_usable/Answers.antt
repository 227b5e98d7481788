use Rattle.std.proofs.Common.{inl, refl}
use Rattle.links.specs.Links.{here}
use Rattle.repair_examples.proofs.Bare.{tree, usable}
use Rattle.repair_examples.proofs.arc_of_bare_design_is_usable.Goals as goal

pub returns-clause-usable : goal.returns-clause-usable
returns-clause-usable c = usable

pub returns-clause-tree : goal.returns-clause-tree
returns-clause-tree c = tree

pub returns-clause-paths : goal.returns-clause-paths
returns-clause-paths c = (inl refl, (tree, usable, here), ((λ b i. absurd i), tt), tt)
