use Rattle.words.specs.Members.{In}
use Rattle.paths.specs.Wiring.{roads_of}
use Rattle.path_laws.proofs.Numbered.{numbers, all_arcs, finite}
use Rattle.path_laws.proofs.Search.{least_is_reached, reached_is_least}
use Rattle.path_laws.proofs.least_cut_is_what_is_reached.Goals as goal

pub returns : goal.returns
returns c = λ g r tree wiring rules is_tree inside pin.
    let arcs = all_arcs g r tree wiring rules is_tree in
    let fin = finite g r tree wiring rules is_tree in (
      (λ l. (least_is_reached (roads_of g r) r.weight (In tree) tree (numbers g.wires) arcs fin inside pin l, l.cut.pin_out)),
      (λ h. reached_is_least (roads_of g r) r.weight (In tree) tree (numbers g.wires) arcs fin inside pin h.0 h.1),
    )
