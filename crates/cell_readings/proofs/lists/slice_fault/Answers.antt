-- The lists of a kind in turn.
use Rattle.std.proofs.Common.{List, Option, ◌≡◌, Ok, Err, subst}
use Rattle.std.specs.Prelude.{IfSome}
use Rattle.std.proofs.lemmas.Result.{err_from_is_err_and}
use Rattle.words.specs.Firsts.{or_else, unless_fault}
use Rattle.words.specs.OrMemory.{OrMemory}
use Rattle.records.specs.Profile.{Require, TableKind, RegisterKind, SliceKind}
use Rattle.cells.specs.Faults.{CellFault, value_fault}
use Rattle.cells.specs.Readings.{Reading, require_reading, table_reading, register_readings}
use Rattle.cram_image.specs.Image.{bits}
use Rattle.cell_readings.specs.Errors.{fault_of}
use Rattle.cell_readings.specs.First.{first_of}
use Rattle.cell_readings.specs.Roles.{kind_readings}
use Rattle.cell_readings.proofs.First.{in_three, found_first, found_later, result_later}
use Rattle.cell_readings.proofs.lists.slice_fault.Goals as goal

pub returns-in_err-first_required : goal.returns-in_err-first_required
returns-in_err-first_required g c =
    let k = c.kind.inside in
    let a : Require → Reading = require_reading (g.G.NamedGraph.graph c.args.graph.now) (bits c.args.image.now) c.args.cell.now c.args.t in
    let b : TableKind → Reading = table_reading (g.G.NamedGraph.graph c.args.graph.now) (bits c.args.image.now) c.args.cell.now c.args.t in
    let d : RegisterKind → List Reading = register_readings (g.G.NamedGraph.graph c.args.graph.now) (bits c.args.image.now) c.args.cell.now c.args.t in
    let one : Option CellFault = first_of (λ x. value_fault (a x)) k.require in
    let two : Option CellFault = first_of (λ y. value_fault (b y)) k.tables in
    let three : Option CellFault = first_of (λ z. first_of value_fault (d z)) k.registers in
    let p = err_from_is_err_and c.from_residual.result c.from_residual.ensures.1 in
    rw (p.1, p.2)
    (subst (λ (s : SliceKind). IfSome (fault_of c.in_err-first_required.field-0.0) (λ f. unless_fault (first_of value_fault (kind_readings (g.G.NamedGraph.graph c.args.graph.now) (bits c.args.image.now) c.args.cell.now c.args.t s)) (tt {0}) ≡ Err f)) c.kind.view_is
    (subst (λ (o : Option CellFault). IfSome (fault_of c.in_err-first_required.field-0.0) (λ f. unless_fault o (tt {0}) ≡ Err f)) (in_three value_fault a b d k.require k.tables k.registers)
    (found_first one (or_else two three) (fault_of c.in_err-first_required.field-0.0)
    (subst (λ (xs : List Require). IfSome (fault_of c.in_err-first_required.field-0.0) (λ f. unless_fault (first_of (λ x. value_fault (a x)) xs) (tt {0}) ≡ Err f)) c.as_slice.ensures c.in_err-first_required.ensures))))

pub returns-in_err-first_table : goal.returns-in_err-first_table
returns-in_err-first_table g c =
    let k = c.kind.inside in
    let a : Require → Reading = require_reading (g.G.NamedGraph.graph c.args.graph.now) (bits c.args.image.now) c.args.cell.now c.args.t in
    let b : TableKind → Reading = table_reading (g.G.NamedGraph.graph c.args.graph.now) (bits c.args.image.now) c.args.cell.now c.args.t in
    let d : RegisterKind → List Reading = register_readings (g.G.NamedGraph.graph c.args.graph.now) (bits c.args.image.now) c.args.cell.now c.args.t in
    let one : Option CellFault = first_of (λ x. value_fault (a x)) k.require in
    let two : Option CellFault = first_of (λ y. value_fault (b y)) k.tables in
    let three : Option CellFault = first_of (λ z. first_of value_fault (d z)) k.registers in
    let first : unless_fault one (tt {0}) ≡ Ok (tt {0}) = subst (λ (xs : List Require). unless_fault (first_of (λ x. value_fault (a x)) xs) (tt {0}) ≡ Ok (tt {0})) c.as_slice.ensures c.in_ok-first_required.ensures in
    let p = err_from_is_err_and c.from_residual-in_err-first_table.result c.from_residual-in_err-first_table.ensures.1 in
    rw (p.1, p.2)
    (subst (λ (s : SliceKind). IfSome (fault_of c.in_err-first_table.field-0.0) (λ f. unless_fault (first_of value_fault (kind_readings (g.G.NamedGraph.graph c.args.graph.now) (bits c.args.image.now) c.args.cell.now c.args.t s)) (tt {0}) ≡ Err f)) c.kind.view_is
    (subst (λ (o : Option CellFault). IfSome (fault_of c.in_err-first_table.field-0.0) (λ f. unless_fault o (tt {0}) ≡ Err f)) (in_three value_fault a b d k.require k.tables k.registers)
    (found_later one (or_else two three) (fault_of c.in_err-first_table.field-0.0) first (found_first two three (fault_of c.in_err-first_table.field-0.0)
    (subst (λ (ys : List TableKind). IfSome (fault_of c.in_err-first_table.field-0.0) (λ f. unless_fault (first_of (λ y. value_fault (b y)) ys) (tt {0}) ≡ Err f)) c.as_slice-2.ensures c.in_err-first_table.ensures)))))

pub returns : goal.returns
returns g c =
    let k = c.kind.inside in
    let a : Require → Reading = require_reading (g.G.NamedGraph.graph c.args.graph.now) (bits c.args.image.now) c.args.cell.now c.args.t in
    let b : TableKind → Reading = table_reading (g.G.NamedGraph.graph c.args.graph.now) (bits c.args.image.now) c.args.cell.now c.args.t in
    let d : RegisterKind → List Reading = register_readings (g.G.NamedGraph.graph c.args.graph.now) (bits c.args.image.now) c.args.cell.now c.args.t in
    let one : Option CellFault = first_of (λ x. value_fault (a x)) k.require in
    let two : Option CellFault = first_of (λ y. value_fault (b y)) k.tables in
    let three : Option CellFault = first_of (λ z. first_of value_fault (d z)) k.registers in
    let first : unless_fault one (tt {0}) ≡ Ok (tt {0}) = subst (λ (xs : List Require). unless_fault (first_of (λ x. value_fault (a x)) xs) (tt {0}) ≡ Ok (tt {0})) c.as_slice.ensures c.in_ok-first_required.ensures in
    let second : unless_fault two (tt {0}) ≡ Ok (tt {0}) = subst (λ (ys : List TableKind). unless_fault (first_of (λ y. value_fault (b y)) ys) (tt {0}) ≡ Ok (tt {0})) c.as_slice-2.ensures c.in_ok-first_table.ensures in
    subst (λ (s : SliceKind). OrMemory (λ done. done) fault_of c.first_register.result (unless_fault (first_of value_fault (kind_readings (g.G.NamedGraph.graph c.args.graph.now) (bits c.args.image.now) c.args.cell.now c.args.t s)) (tt {0}))) c.kind.view_is
    (subst (λ (o : Option CellFault). OrMemory (λ done. done) fault_of c.first_register.result (unless_fault o (tt {0}))) (in_three value_fault a b d k.require k.tables k.registers)
    (result_later fault_of c.first_register.result one (or_else two three) first (result_later fault_of c.first_register.result two three second
    (subst (λ (zs : List RegisterKind). OrMemory (λ done. done) fault_of c.first_register.result (unless_fault (first_of (λ z. first_of value_fault (d z)) zs) (tt {0}))) c.as_slice-3.ensures c.first_register.ensures))))
