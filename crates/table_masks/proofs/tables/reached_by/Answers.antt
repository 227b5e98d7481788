use Rattle.std.proofs.Common.{◌≤◌, sym, ap, subst, ◌∙◌, length}
use Rattle.circuit.specs.Cells.{TableCell}
use Rattle.circuit.specs.Parts.{Source, sources}
use Rattle.table_masks.specs.Masking.{LeastReached}
use Rattle.table_masks.specs.Pins.{PinsTold, fed_by}
use Rattle.table_masks.proofs.Row.{table_answer}
use Rattle.table_masks.proofs.tables.reached_by.Goals as goal

pub returns : goal.returns
returns c = λ circuit shows.
    let pins = c.in_ok-pins.pins.items in
    let word = ap (λ (t : TableCell). t.word) c.table.view_is in
    table_answer c.args.parts.now c.args.feeds.now c.args.triples.now c.args.place c.args.source.now c.args.table.now pins c.source.inside.domain c.least_of.result c.requires.at c.requires.is_table
    (ap (λ (s : Source). s.domain) c.source.view_is) (c.in_ok-pins.ensures.long ∙ ap (λ xs. length xs) c.feeds_of.ensures) circuit shows
    (subst (λ xs. PinsTold circuit.side (fed_by (sources c.args.parts.now) xs) pins) c.feeds_of.ensures (c.in_ok-pins.ensures.told circuit.side shows.numbers_are))
    (λ few. subst (λ w. LeastReached w pins c.source.inside.domain c.least_of.result) word
    (subst (λ xs. LeastReached c.table.inside.word xs c.source.inside.domain c.least_of.result) c.deref.ensures.value (c.least_of.ensures (subst (λ xs. length xs ≤ 4) (sym c.deref.ensures.value) few))))
