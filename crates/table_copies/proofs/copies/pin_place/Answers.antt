use Rattle.std.proofs.Common.{map, sym, subst, ◌∙◌}
use Rattle.std.proofs.lemmas.Option.{same_Some}
use Rattle.words.specs.Members.{In}
use Rattle.circuit.specs.Parts.{Source}
use Rattle.table_copies.proofs.Order.{absent}
use Rattle.table_copies.proofs.copies.pin_place.Goals as goal

pub returns-in-Before : goal.returns-in-Before
returns-in-Before c = λ are p is rising there.
    let feeders = map (λ (s : Source). s.part) c.args.feeders.now in
    let part = c.in-Some.feeder.part in
    let h = c.in-Before.ensures in
    absent feeders part c.in-Before.field-0 rising (subst (In feeders) (sym (same_Some part p (c.in-Some.ensures are ∙ is))) there) h.0 h.1 h.2
