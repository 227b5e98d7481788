use Rattle.std.proofs.Common.{◌≡◌, ◌<◌, None, Some, length, OnOk, ap, sym, subst, ◌∙◌}
use Rattle.records.specs.Grid.{Tile}
use Rattle.records.specs.Limits.{most_wires}
use Rattle.device_names.proofs.SameNames.{no_wires}
use Rattle.device_wires.specs.Gathered.{gathered}
use Rattle.device_wires.proofs.SlotWires.{all_short, wires_of_slots}
use Rattle.device_wires.proofs.gather.add_tile.Goals as goal

pub returns-in_default-clause-ok : goal.returns-in_default-clause-ok
returns-in_default-clause-ok c =
    let kind = c.args.kind.now in
    let place : c.args.tile.now.place ≡ None = ap (λ (t : Tile). t.place) (sym c.tile.view_is) ∙ c.in_default.is in
    ap (gathered c.args.wires.now) (sym (no_wires kind.rules c.args.tile.now kind.names place))

pub add_slots-requires : goal.add_slots-requires
add_slots-requires c = all_short c.args.kind.now.rules c.args.kind.now.names c.slots.result.now c.slots.ensures

pub returns-clause-ok : goal.returns-clause-ok
returns-clause-ok c =
    let kind = c.args.kind.now in
    let place : c.args.tile.now.place ≡ Some (c.in-Some.row, c.in-Some.col) = ap (λ (t : Tile). t.place) (sym c.tile.view_is) ∙ c.in-Some.is in
    subst (λ named. OnOk c.add_slots.result (c.add_slots.new.wires ≡ gathered c.args.wires.now named))
    (wires_of_slots kind.rules c.args.tile.now (c.in-Some.row, c.in-Some.col) kind.names c.slots.result.now place c.slots.ensures) c.add_slots.ensures.ok

pub returns-clause-many : goal.returns-clause-many
returns-clause-many c = λ is.
    let kind = c.args.kind.now in
    let place : c.args.tile.now.place ≡ Some (c.in-Some.row, c.in-Some.col) = ap (λ (t : Tile). t.place) (sym c.tile.view_is) ∙ c.in-Some.is in
    subst (λ named. most_wires < length (gathered c.args.wires.now named))
    (wires_of_slots kind.rules c.args.tile.now (c.in-Some.row, c.in-Some.col) kind.names c.slots.result.now place c.slots.ensures) (c.add_slots.ensures.many is)
