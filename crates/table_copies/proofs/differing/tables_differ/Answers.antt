use Rattle.std.proofs.Common.{◌≡◌, ◌≤◌, vec_len, map, length, sym, subst, ◌∙◌, arith}
use Rattle.std.proofs.lemmas.List.{length-map}
use Rattle.std.proofs.lemmas.Result.{IfOk-weaker}
use Rattle.circuit.specs.Parts.{PartRef, Source, sources}
use Rattle.table_copies.specs.Copies.{AreTables}
use Rattle.table_copies.specs.Outputs.{TellsOutputs}
use Rattle.table_copies.proofs.TablesTold.{tables_told}
use Rattle.table_copies.proofs.differing.tables_differ.Goals as goal

pub returns : goal.returns
returns c =
    let rows = c.rows_of-rows.result in
    let tables = c.tables_of-tables.result in
    let part : Source → PartRef = λ s. s.part in
    let items = c.in_ok-feeders.feeders.items in
    let many : c.len.result ≡ length (map part items) = (let own : length items ≡ vec_len c.in_ok-feeders.feeders = omega (arith, c.in_ok-feeders.feeders.ok.0) in c.len.ensures ∙ (sym own ∙ sym (length-map items part))) in
    IfOk-weaker c.outputs_told.result _ _
    (λ r outputs circuit shows side_is once t number i named. tables_told c.args.feeds.now c.args.triples.now c.args.read.now c.args.copies.now rows.first.now rows.second.now rows.third.now (map part items) tables r
    circuit t number c.args.parts.now c.args.side.now c.rows_of-rows.ensures c.in_ok-feeders.ensures
    (λ are. subst
    (λ xs. AreTables c.args.side.now (sources c.args.parts.now) (map part xs) c.args.read.now rows.first.now rows.second.now rows.third.now c.args.copies.now tables)
    c.deref.ensures.value (c.tables_of-tables.ensures are))
    (subst (λ n. n ≤ 12 → TellsOutputs n tables r) many outputs) shows side_is once named)
    c.outputs_told.ensures
