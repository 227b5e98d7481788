use Rattle.std.proofs.Common.{map, sym, ap, subst, ◌∙◌, ◌≤◌}
use Rattle.std.proofs.lemmas.List.{length-map}
use Rattle.circuit.specs.Parts.{Source}
use Rattle.table_copies.specs.declared.places.Place.TheVariants.{At, Before}
use Rattle.table_copies.specs.Places.{IsPlace}
use Rattle.table_copies.proofs.Order.{enters, map_insert, stands}
use Rattle.table_copies.proofs.places.put_in.Goals as goal

pub returns-in-At : goal.returns-in-At
returns-in-At c =
    let parts = map (λ (s : Source). s.part) c.args.parts.now.items in
    let h = subst (λ xs. IsPlace (map (λ (s : Source). s.part) xs) c.args.part.part (At c.in-At.field-0)) c.deref.ensures.value c.in-At.ensures in
    sym (stands parts c.args.part.part c.in-At.field-0 h.0 h.1)

pub returns-in_ok-insert-in-Before : goal.returns-in_ok-insert-in-Before
returns-in_ok-insert-in-Before c =
    let items = c.args.parts.now.items in
    let parts = map (λ (s : Source). s.part) items in
    let h = subst (λ xs. IsPlace (map (λ (s : Source). s.part) xs) c.args.part.part (Before c.in-Before.place)) c.deref.ensures.value c.in-Before.ensures in
    ap (map (λ (s : Source). s.part)) c.in_ok-insert-in-Before.ensures.items
    ∙ (map_insert (λ (s : Source). s.part) items c.in-Before.place c.args.part (subst (λ n. c.in-Before.place ≤ n) (length-map items (λ (s : Source). s.part)) h.0) ∙ sym (enters parts c.args.part.part c.in-Before.place h.0 h.1 h.2))
