use Rattle.std.proofs.Common.{ap, subst, ◌∙◌, cond, Some}
use Rattle.std.specs.Ordering.{is_eq}
use Rattle.std.specs.BTreeMap.{get}
use Rattle.circuit.specs.Parts.{Source}
use Rattle.part_copies.specs.Keys.{HasNumber, code_in, key_cmp}
use Rattle.part_copies.proofs.Keyed.{part_added}
use Rattle.part_copies.proofs.keys.add_part.Goals as goal

pub returns : goal.returns
returns c = λ all at held.
    part_added all c.args.place c.in_ok-cell.cell c.args.source.now c.args.cells.now c.number_of.new.cells c.args.numbers.now c.insert.new.self at
    (subst (λ (z : Source). HasNumber c.args.cells.now c.number_of.new.cells z.part.cell c.args.place c.in_ok-cell.cell) c.source.view_is c.in_ok-cell.ensures)
    (λ q. c.in_ok-insert.ensures.updates.0 q
    ∙ ap (λ k. cond (is_eq (key_cmp (c.in_ok-cell.cell, k) q)) (Some c.args.place) (get key_cmp c.args.numbers.now q)) (c.code_of.ensures ∙ ap (λ (s : Source). code_in s.part.part) c.source.view_is)) held
