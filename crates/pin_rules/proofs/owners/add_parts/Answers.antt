use Rattle.std.proofs.Common.{◌<◌, ◌++◌, length, option_map, replicate, ap, subst, ◌∙◌}
use Rattle.std.specs.Prelude.{slice_get}
use Rattle.circuit.specs.Parts.{sources}
use Rattle.circuit.specs.Pins.{source_pins}
use Rattle.pin_rules.specs.declared.owners.PinOwner.TheVariants.{Part}
use Rattle.pin_rules.specs.Owners.{owners_from}
use Rattle.pin_rules.proofs.Owning.{parts_more}
use Rattle.pin_rules.proofs.owners.add_parts.Goals as goal

pub loop-place-preserved : goal.loop-place-preserved
loop-place-preserved c =
    parts_more (sources c.args.parts.now) c.loop-place.place c.pins_of.result.now c.loop-place.owners.items c.add_part.new.owners.items (c.args.owners.now.items ++ owners_from 0 (sources c.args.parts.now))
    (subst (λ xs. c.loop-place.place < length xs) c.sources-place-end.ensures.all c.loop-place-test.true)
    (c.pins_of.ensures.pins ∙ ap (λ k. option_map source_pins (slice_get (sources c.args.parts.now) k)) c.from_u32-part.ensures)
    c.loop-place.invariant
    (c.in_ok-add_part.ensures ∙ ap (λ k. c.loop-place.owners.items ++ replicate (length c.pins_of.result.now) (Part k)) c.from_u32-part.ensures)
