use Rattle.std.proofs.Common.{◌<◌, length, sym, ap, subst, ◌∙◌}
use Rattle.device_numbers.specs.Numbered.{Numbered, shape_at}
use Rattle.device_numbers.proofs.Tiles.{shape_there, shape_is}
use Rattle.device_numbers.proofs.device.DeviceNumbers.shape.Goals as goal

pub unwrap-requires : goal.unwrap-requires
unwrap-requires c =
    let k = c.self.inside in
    let below = subst (λ (n : Numbered). c.args.tile < length n.device.grid.tiles) (sym c.self.view_is) c.requires in
    shape_there k.device.now k.wires k.types k.slots k.shapes c.self.invariant c.args.tile below c.of_tile.result c.of_tile.ensures

pub returns : goal.returns
returns c =
    let k = c.self.inside in
    let below = subst (λ (n : Numbered). c.args.tile < length n.device.grid.tiles) (sym c.self.view_is) c.requires in
    shape_is k.device.now k.wires k.types k.slots k.shapes c.self.invariant c.args.tile below c.of_tile.result c.unwrap.result c.of_tile.ensures c.unwrap.ensures
    ∙ ap (λ (n : Numbered). shape_at n c.args.tile) c.self.view_is
