use Rattle.std.proofs.Common.{◌≡◌, Ok, Err, List, sym, subst, ◌∙◌}
use Rattle.std.specs.Prelude.{IfSome}
use Rattle.std.proofs.lemmas.Result.{err_from_is_err_and}
use Rattle.words.specs.Firsts.{unless_fault}
use Rattle.words.specs.OrMemory.{OrMemory}
use Rattle.records.specs.Profile.{PadKind}
use Rattle.cells.specs.Faults.{unnamed_fault}
use Rattle.cells.specs.Sites.{Site, unnamed_pads}
use Rattle.cram_image.specs.Image.{bits}
use Rattle.cell_readings.specs.Errors.{fault_of}
use Rattle.cell_readings.specs.First.{first_of}
use Rattle.cell_readings.proofs.First.{found_first, result_later}
use Rattle.slice_model.specs.Grid.{AllStand}
use Rattle.slice_model.specs.Turns.{modes_fault}
use Rattle.slice_model.proofs.OtherPads.{unnamed_stand}
use Rattle.slice_model.proofs.faults.first_of_others.Goals as goal

pub first_of_unnamed-requires-clause-at : goal.first_of_unnamed-requires-clause-at
first_of_unnamed-requires-clause-at g c = subst (AllStand (g.G.NamedGraph.graph c.args.graph.now)) (sym (c.as_slice.ensures.value ∙ c.in_ok-sites.ensures)) (unnamed_stand (g.G.NamedGraph.graph c.args.graph.now) c.args.profile.now c.args.names.now)

pub first_driving-requires-clause-at : goal.first_driving-requires-clause-at
first_driving-requires-clause-at g c = subst (AllStand (g.G.NamedGraph.graph c.args.graph.now)) (sym (c.as_slice-2.ensures.value ∙ c.in_ok-sites.ensures)) (unnamed_stand (g.G.NamedGraph.graph c.args.graph.now) c.args.profile.now c.args.names.now)

pub returns-in_err-first_of_unnamed : goal.returns-in_err-first_of_unnamed
returns-in_err-first_of_unnamed g c =
    let p = err_from_is_err_and c.from_residual-in_err-first_of_unnamed.result c.from_residual-in_err-first_of_unnamed.ensures.1 in
    rw (p.1, p.2)
    (found_first (modes_fault (g.G.NamedGraph.graph c.args.graph.now) (bits c.args.image.now) (unnamed_pads (g.G.NamedGraph.graph c.args.graph.now) c.args.profile.now c.args.names.now)) (first_of (unnamed_fault (g.G.NamedGraph.graph c.args.graph.now) (bits c.args.image.now)) (unnamed_pads (g.G.NamedGraph.graph c.args.graph.now) c.args.profile.now c.args.names.now)) (fault_of c.in_err-first_of_unnamed.field-0.0)
    (subst (λ (ss : List (Site PadKind)). IfSome (fault_of c.in_err-first_of_unnamed.field-0.0) (λ f. unless_fault (modes_fault (g.G.NamedGraph.graph c.args.graph.now) (bits c.args.image.now) ss) (tt {0}) ≡ Err f)) (c.as_slice.ensures.value ∙ c.in_ok-sites.ensures) c.in_err-first_of_unnamed.ensures))

pub returns : goal.returns
returns g c =
    result_later fault_of c.first_driving.result (modes_fault (g.G.NamedGraph.graph c.args.graph.now) (bits c.args.image.now) (unnamed_pads (g.G.NamedGraph.graph c.args.graph.now) c.args.profile.now c.args.names.now)) (first_of (unnamed_fault (g.G.NamedGraph.graph c.args.graph.now) (bits c.args.image.now)) (unnamed_pads (g.G.NamedGraph.graph c.args.graph.now) c.args.profile.now c.args.names.now))
    (subst (λ (ss : List (Site PadKind)). unless_fault (modes_fault (g.G.NamedGraph.graph c.args.graph.now) (bits c.args.image.now) ss) (tt {0}) ≡ Ok (tt {0})) (c.as_slice.ensures.value ∙ c.in_ok-sites.ensures) c.in_ok-first_of_unnamed.ensures)
    (subst (λ (ss : List (Site PadKind)). OrMemory (λ done. done) fault_of c.first_driving.result (unless_fault (first_of (unnamed_fault (g.G.NamedGraph.graph c.args.graph.now) (bits c.args.image.now)) ss) (tt {0}))) (c.as_slice-2.ensures.value ∙ c.in_ok-sites.ensures) c.first_driving.ensures)
