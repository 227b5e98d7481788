use Rattle.std.proofs.Common.{refl, sym, ap, subst, ◌∙◌}
use Rattle.std.proofs.lemmas.Bool.{false≢true}
use Rattle.copy_rules.specs.Outputs.{AreOutputPins}
use Rattle.copy_checks.proofs.Pinned.{pins_listed}
use Rattle.copy_checks.proofs.Telling.{output_told}
use Rattle.copy_checks.proofs.outputs.output_unlike.Goals as goal

pub returns-then-not-outputs_differ : goal.returns-then-not-outputs_differ
returns-then-not-outputs_differ c = λ circuit is held i d.
    let pins = subst (AreOutputPins circuit c.args.triple.now) (sym c.deref.ensures.value)
    (pins_listed circuit c.args.design.now.parts.now is.shows.feeds_are.cells_are is.shows.feeds_are.tells.formed.names c.args.triple.now c.args.pads.now held c.in_ok-pins.pins.items c.in_ok-pins.ensures) in
    false≢true ((c.if-not-outputs_differ.ensures circuit is.shows.feeds_are c.args.triple.now pins).1 d)

pub returns : goal.returns
returns c = λ circuit is held i.
    let pins = subst (AreOutputPins circuit c.args.triple.now) (sym c.deref.ensures.value)
    (pins_listed circuit c.args.design.now.parts.now is.shows.feeds_are.cells_are is.shows.feeds_are.tells.formed.names c.args.triple.now c.args.pads.now held c.in_ok-pins.pins.items c.in_ok-pins.ensures) in
    output_told circuit c.args.triple.now c.unlike_of.result i ((c.if-not-outputs_differ.ensures circuit is.shows.feeds_are c.args.triple.now pins).0 refl)
    c.unlike_of.ensures.named (ap (λ v. v.items) c.unlike_of.ensures.what ∙ c.in_ok-what.ensures.items)
