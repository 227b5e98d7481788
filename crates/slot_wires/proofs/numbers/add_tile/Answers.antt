use Rattle.std.proofs.Common.{◌≡◌, ◌++◌, None, Some, OnOk, ap, sym, subst, ◌∙◌}
use Rattle.records.specs.Grid.{Tile}
use Rattle.slot_wires.proofs.InTiles.{no_numbers, numbers_at_place}
use Rattle.slot_wires.proofs.numbers.add_tile.Goals as goal

pub returns-in_default : goal.returns-in_default
returns-in_default c =
    let kind = c.args.kind.now in
    let place : c.args.tile.now.place ≡ None = ap (λ (t : Tile). t.place) (sym c.tile.view_is) ∙ c.in_default.is in
    subst (λ more. OnOk c.add_none.result (c.add_none.new.numbers.items ≡ c.args.numbers.now.items ++ more))
    (no_numbers c.args.wires.now kind.rules c.args.tile.now kind.names c.slots.result.now place c.slots.ensures) c.add_none.ensures

pub returns : goal.returns
returns c =
    let kind = c.args.kind.now in
    let place : c.args.tile.now.place ≡ Some (c.in-Some.row, c.in-Some.col) = ap (λ (t : Tile). t.place) (sym c.tile.view_is) ∙ c.in-Some.is in
    subst (λ more. OnOk c.add_at_place.result (c.add_at_place.new.numbers.items ≡ c.args.numbers.now.items ++ more))
    (numbers_at_place c.args.wires.now kind.rules c.args.tile.now (c.in-Some.row, c.in-Some.col) kind.names c.slots-2.result.now place c.slots-2.ensures) c.add_at_place.ensures
