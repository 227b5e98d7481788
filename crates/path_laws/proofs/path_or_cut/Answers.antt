use Rattle.words.specs.Members.{In}
use Rattle.paths.specs.Wiring.{roads_of}
use Rattle.path_laws.proofs.Leading.{none_crosses}
use Rattle.path_laws.proofs.Numbered.{numbers, all_arcs, finite}
use Rattle.path_laws.proofs.Search.{path_or_cut}
use Rattle.path_laws.proofs.path_or_cut.Goals as goal

pub returns-clause-one : goal.returns-clause-one
returns-clause-one c = λ g r tree pin wiring rules is_tree.
    path_or_cut (roads_of g r) r.weight (In tree) tree (numbers g.wires) (all_arcs g r tree wiring rules is_tree) (finite g r tree wiring rules is_tree) pin

pub returns-clause-not_both : goal.returns-clause-not_both
returns-clause-not_both c = λ g r tree path inside rim pin p b. none_crosses (roads_of g r) (In tree) inside path pin b.least.cut p.is_path
