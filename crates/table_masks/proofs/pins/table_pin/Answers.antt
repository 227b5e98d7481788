use Rattle.std.proofs.Common.{sym, ap, ◌∙◌}
use Rattle.std.specs.Prelude.{slice_get}
use Rattle.circuit.specs.Parts.{Source, sources}
use Rattle.table_masks.proofs.Fed.{is_fed}
use Rattle.table_masks.proofs.pins.table_pin.Goals as goal

pub returns-in-Some-source_at : goal.returns-in-Some-source_at
returns-in-Some-source_at c = λ side are.
    is_fed side (sources c.args.parts.now) c.args.feeds.now c.in-Some.part c.args.place c.in-Some-source_at.source.now (sym c.in-Some.ensures)
    (ap (λ xs. slice_get xs c.in-Some.part) (sym c.sources.ensures.all) ∙ sym c.in-Some-source_at.ensures) c.first_alike-first.result c.source.inside.domain
    (ap (λ (z : Source). z.domain) c.source.view_is) c.first_alike-first.ensures.within (c.first_alike-first.ensures.first side are)
