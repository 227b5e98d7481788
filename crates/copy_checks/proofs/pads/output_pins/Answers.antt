use Rattle.std.proofs.Common.{ap, ◌∙◌}
use Rattle.std.proofs.lemmas.Result.{IfOk-weaker}
use Rattle.records.specs.Side.{Triple}
use Rattle.part_triples.specs.Places.{place_in}
use Rattle.copy_checks.proofs.Kept.{there_moved}
use Rattle.copy_checks.proofs.pads.output_pins.Goals as goal

pub returns : goal.returns
returns c = IfOk-weaker c.listed.result _ _
    (λ list there. there_moved c.pin_of-first.result c.pin_of-second.result c.pin_of-third.result (place_in c.args.pads.now c.args.triple.now.first) (place_in c.args.pads.now c.args.triple.now.second)
    (place_in c.args.pads.now c.args.triple.now.third) list.items
    (c.pin_of-first.ensures ∙ ap (λ (t : Triple). place_in c.args.pads.now t.first) c.triple.view_is)
    (c.pin_of-second.ensures ∙ ap (λ (t : Triple). place_in c.args.pads.now t.second) c.triple.view_is)
    (c.pin_of-third.ensures ∙ ap (λ (t : Triple). place_in c.args.pads.now t.third) c.triple.view_is) there)
    c.listed.ensures
