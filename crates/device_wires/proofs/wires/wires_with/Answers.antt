use Rattle.std.proofs.Common.{◌∙◌, [], sym, subst}
use Rattle.std.specs.Prelude.{flat_map}
use Rattle.std.proofs.lemmas.Result.{err_from_is_err_and}
use Rattle.fabric.specs.InOrder.{InOrderOnce}
use Rattle.fabric.specs.Wires.{wire_cmp}
use Rattle.device_wires.specs.Gathered.{gathered}
use Rattle.device_wires.specs.Slots.{slot_wires}
use Rattle.device_wires.specs.declared.errors.WiresError.TheVariants.{TooMany}
use Rattle.device_wires.proofs.InOrder.{in_order_once}
use Rattle.device_wires.proofs.SameMembers.{named_in_order}
use Rattle.device_wires.proofs.SoFar.{same_error}
use Rattle.device_wires.proofs.wires.wires_with.Goals as goal

pub returns-in_err-gathered-clause-too_many : goal.returns-in_err-gathered-clause-too_many
returns-in_err-gathered-clause-too_many c =
    let device = c.args.device.now in
    let slots = flat_map (slot_wires device) device.grid.tiles in
    let p = err_from_is_err_and c.from_residual.result c.from_residual.ensures.1 in
    rw (p.1, p.2) (λ is. record { wires = gathered [] slots; named = named_in_order device (gathered [] slots) (in_order_once slots); many = c.in_err-gathered.ensures.many (same_error _ TooMany is) })

pub returns-clause-ok : goal.returns-clause-ok
returns-clause-ok c =
    let device = c.args.device.now in
    let slots = flat_map (slot_wires device) device.grid.tiles in
    named_in_order device c.in_ok-names.names (subst (InOrderOnce wire_cmp slots) (sym (c.in_ok-names.ensures.ok ∙ c.in_ok-gathered.ensures.ok)) (in_order_once slots))
