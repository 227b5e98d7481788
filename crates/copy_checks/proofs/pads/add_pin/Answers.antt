use Rattle.std.proofs.Common.{ap, ◌∙◌}
use Rattle.circuit.specs.Pins.{Pin}
use Rattle.copy_checks.proofs.Pinned.{pin_more}
use Rattle.copy_checks.proofs.pads.add_pin.Goals as goal

pub returns : goal.returns
returns c = pin_more c.bytes.result c.args.pin.now c.args.place c.args.pads.now c.insert.new.self (c.bytes.ensures.same ∙ ap (λ (p : Pin). p.ref.part.cell) c.pin.view_is) c.in_ok-insert.ensures.updates.0
