use Rattle.std.proofs.Common.{◌≡◌, ◌≤◌, length, map, Some, sym, ap, subst, ◌∙◌, arith}
use Rattle.std.proofs.lemmas.List.{length-map}
use Rattle.circuit.specs.Parts.{PartRef, Source}
use Rattle.table_copies.specs.Places.{IsAfter}
use Rattle.table_copies.proofs.Order.{after_more, nothing_past, part_same, there}
use Rattle.table_copies.proofs.places.place_of.Goals as goal

pub returns-in-Equal : goal.returns-in-Equal
returns-in-Equal c =
    let other = c.index-parts-place.result in (
      there c.args.parts.now c.loop-place.place other c.loop-place-test.true c.index-parts-place.is ∙ ap (λ (p : PartRef). Some p) (sym (part_same c.args.part.now.part other.part (sym c.in-Equal.ensures))),
      c.loop-place.invariant,
    )

-- the part comes after one more
pub loop-place-preserved : goal.loop-place-preserved
loop-place-preserved c =
    let other = c.index-parts-place.result in
    after_more (map (λ (s : Source). s.part) c.args.parts.now) c.args.part.now.part other.part c.loop-place.place (there c.args.parts.now c.loop-place.place other c.loop-place-test.true c.index-parts-place.is)
    (sym c.in-Greater.ensures) c.loop-place.invariant

pub returns : goal.returns
returns c =
    let parts = map (λ (s : Source). s.part) c.args.parts.now in
    let long : length parts ≡ length c.args.parts.now = length-map c.args.parts.now (λ (s : Source). s.part) in
    let end : c.loop-place.place ≡ length c.args.parts.now = omega arith in (
      (let h : length c.args.parts.now ≤ length parts = omega arith in h),
      subst (IsAfter parts c.args.part.now.part) end c.loop-place.invariant,
      nothing_past parts c.args.part.now.part (length c.args.parts.now) (let h : length parts ≤ length c.args.parts.now = omega arith in h),
    )
