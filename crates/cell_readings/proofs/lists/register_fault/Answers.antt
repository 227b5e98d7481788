-- The choices of a register in turn.
use Rattle.std.proofs.Common.{[], ◌∷◌, Option, ◌≡◌, Err, subst}
use Rattle.std.specs.Prelude.{IfSome}
use Rattle.std.proofs.lemmas.Result.{err_from_is_err_and}
use Rattle.words.specs.Firsts.{unless_fault}
use Rattle.words.specs.OrMemory.{OrMemory}
use Rattle.records.specs.Profile.{Choice, RegisterKind}
use Rattle.cells.specs.Faults.{CellFault, value_fault}
use Rattle.cells.specs.Readings.{choice_reading, register_readings}
use Rattle.cram_image.specs.Image.{bits}
use Rattle.cell_readings.specs.Errors.{fault_of}
use Rattle.cell_readings.specs.First.{first_of}
use Rattle.cell_readings.proofs.First.{list_first, list_later, list_result, list_last}
use Rattle.cell_readings.proofs.lists.register_fault.Goals as goal

pub returns-in_err-choice_fault : goal.returns-in_err-choice_fault
returns-in_err-choice_fault g c =
    let r = c.register.inside in
    let fault : Choice → Option CellFault = λ k. value_fault (choice_reading (g.G.NamedGraph.graph c.args.graph.now) (bits c.args.image.now) c.args.cell.now c.args.t k) in
    let p = err_from_is_err_and c.from_residual.result c.from_residual.ensures.1 in
    rw (p.1, p.2)
    (subst (λ (k : RegisterKind). IfSome (fault_of c.in_err-choice_fault.field-0.0) (λ f. unless_fault (first_of value_fault (register_readings (g.G.NamedGraph.graph c.args.graph.now) (bits c.args.image.now) c.args.cell.now c.args.t k)) (tt {0}) ≡ Err f)) c.register.view_is
    (list_first fault r.input (r.enable ∷ r.reset ∷ r.set ∷ r.clock ∷ []) (fault_of c.in_err-choice_fault.field-0.0) c.in_err-choice_fault.ensures))

pub returns-in_err-choice_fault-2 : goal.returns-in_err-choice_fault-2
returns-in_err-choice_fault-2 g c =
    let r = c.register.inside in
    let fault : Choice → Option CellFault = λ k. value_fault (choice_reading (g.G.NamedGraph.graph c.args.graph.now) (bits c.args.image.now) c.args.cell.now c.args.t k) in
    let p = err_from_is_err_and c.from_residual-in_err-choice_fault-2.result c.from_residual-in_err-choice_fault-2.ensures.1 in
    rw (p.1, p.2)
    (subst (λ (k : RegisterKind). IfSome (fault_of c.in_err-choice_fault-2.field-0.0) (λ f. unless_fault (first_of value_fault (register_readings (g.G.NamedGraph.graph c.args.graph.now) (bits c.args.image.now) c.args.cell.now c.args.t k)) (tt {0}) ≡ Err f)) c.register.view_is
    (list_later fault r.input (r.enable ∷ r.reset ∷ r.set ∷ r.clock ∷ []) (fault_of c.in_err-choice_fault-2.field-0.0) c.in_ok-choice_fault.ensures
    (list_first fault r.enable (r.reset ∷ r.set ∷ r.clock ∷ []) (fault_of c.in_err-choice_fault-2.field-0.0) c.in_err-choice_fault-2.ensures)))

pub returns-in_err-choice_fault-3 : goal.returns-in_err-choice_fault-3
returns-in_err-choice_fault-3 g c =
    let r = c.register.inside in
    let fault : Choice → Option CellFault = λ k. value_fault (choice_reading (g.G.NamedGraph.graph c.args.graph.now) (bits c.args.image.now) c.args.cell.now c.args.t k) in
    let p = err_from_is_err_and c.from_residual-in_err-choice_fault-3.result c.from_residual-in_err-choice_fault-3.ensures.1 in
    rw (p.1, p.2)
    (subst (λ (k : RegisterKind). IfSome (fault_of c.in_err-choice_fault-3.field-0.0) (λ f. unless_fault (first_of value_fault (register_readings (g.G.NamedGraph.graph c.args.graph.now) (bits c.args.image.now) c.args.cell.now c.args.t k)) (tt {0}) ≡ Err f)) c.register.view_is
    (list_later fault r.input (r.enable ∷ r.reset ∷ r.set ∷ r.clock ∷ []) (fault_of c.in_err-choice_fault-3.field-0.0) c.in_ok-choice_fault.ensures
    (list_later fault r.enable (r.reset ∷ r.set ∷ r.clock ∷ []) (fault_of c.in_err-choice_fault-3.field-0.0) c.in_ok-choice_fault-2.ensures
    (list_first fault r.reset (r.set ∷ r.clock ∷ []) (fault_of c.in_err-choice_fault-3.field-0.0) c.in_err-choice_fault-3.ensures))))

pub returns-in_err-choice_fault-4 : goal.returns-in_err-choice_fault-4
returns-in_err-choice_fault-4 g c =
    let r = c.register.inside in
    let fault : Choice → Option CellFault = λ k. value_fault (choice_reading (g.G.NamedGraph.graph c.args.graph.now) (bits c.args.image.now) c.args.cell.now c.args.t k) in
    let p = err_from_is_err_and c.from_residual-in_err-choice_fault-4.result c.from_residual-in_err-choice_fault-4.ensures.1 in
    rw (p.1, p.2)
    (subst (λ (k : RegisterKind). IfSome (fault_of c.in_err-choice_fault-4.field-0.0) (λ f. unless_fault (first_of value_fault (register_readings (g.G.NamedGraph.graph c.args.graph.now) (bits c.args.image.now) c.args.cell.now c.args.t k)) (tt {0}) ≡ Err f)) c.register.view_is
    (list_later fault r.input (r.enable ∷ r.reset ∷ r.set ∷ r.clock ∷ []) (fault_of c.in_err-choice_fault-4.field-0.0) c.in_ok-choice_fault.ensures
    (list_later fault r.enable (r.reset ∷ r.set ∷ r.clock ∷ []) (fault_of c.in_err-choice_fault-4.field-0.0) c.in_ok-choice_fault-2.ensures
    (list_later fault r.reset (r.set ∷ r.clock ∷ []) (fault_of c.in_err-choice_fault-4.field-0.0) c.in_ok-choice_fault-3.ensures
    (list_first fault r.set (r.clock ∷ []) (fault_of c.in_err-choice_fault-4.field-0.0) c.in_err-choice_fault-4.ensures)))))

pub returns : goal.returns
returns g c =
    let r = c.register.inside in
    let fault : Choice → Option CellFault = λ k. value_fault (choice_reading (g.G.NamedGraph.graph c.args.graph.now) (bits c.args.image.now) c.args.cell.now c.args.t k) in
    subst (λ (k : RegisterKind). OrMemory (λ done. done) fault_of c.choice_fault-5.result (unless_fault (first_of value_fault (register_readings (g.G.NamedGraph.graph c.args.graph.now) (bits c.args.image.now) c.args.cell.now c.args.t k)) (tt {0}))) c.register.view_is
    (list_result fault r.input (r.enable ∷ r.reset ∷ r.set ∷ r.clock ∷ []) fault_of c.choice_fault-5.result c.in_ok-choice_fault.ensures
    (list_result fault r.enable (r.reset ∷ r.set ∷ r.clock ∷ []) fault_of c.choice_fault-5.result c.in_ok-choice_fault-2.ensures
    (list_result fault r.reset (r.set ∷ r.clock ∷ []) fault_of c.choice_fault-5.result c.in_ok-choice_fault-3.ensures
    (list_result fault r.set (r.clock ∷ []) fault_of c.choice_fault-5.result c.in_ok-choice_fault-4.ensures
    (list_last fault r.clock fault_of c.choice_fault-5.result c.choice_fault-5.ensures)))))
