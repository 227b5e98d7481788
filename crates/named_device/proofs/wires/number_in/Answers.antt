use Rattle.std.proofs.Common.{◌≡◌, Some, ap, ◌∙◌, sym}
use Rattle.records.specs.Grid.{Tile}
use Rattle.fabric.specs.WireOfName.{wire_of_name}
use Rattle.wire_names.specs.Kept.{number_of_name}
use Rattle.device_names.proofs.SameNames.{number_at_place}
use Rattle.named_device.proofs.wires.number_in.Goals as goal

pub returns : goal.returns
returns c =
    let row = c.in_ok-row.row in
    let col = c.in_ok-row.col in
    let place : c.args.tile.now.place ≡ Some (row, col) = ap (λ (t : Tile). t.place) (sym c.tile.view_is) ∙ c.in_ok-row.was in
    c.find.ensures
    ∙ (ap (number_of_name c.args.wires.now) (c.at.ensures ∙ (c.slot.ensures.stands row col ∙ ap (λ name. wire_of_name (row, col) name c.args.rules.now) c.bytes.ensures.same))
    ∙ number_at_place c.args.wires.now c.args.rules.now c.args.tile.now (row, col) c.args.name.now place)
