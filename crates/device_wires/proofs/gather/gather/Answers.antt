use Rattle.std.proofs.Common.{◌≡◌, ◌<◌, ◌+◌, [], length, get_or, filter_map, ap, ◌∙◌, subst, arith}
use Rattle.std.specs.Prelude.{flat_map}
use Rattle.std.proofs.lemmas.Result.{err_from_is_err_and}
use Rattle.records.specs.Grid.{Grid}
use Rattle.records.specs.Limits.{most_wires}
use Rattle.fabric.specs.Device.{Device}
use Rattle.fabric.specs.TileWires.{wire_in}
use Rattle.tile_types.specs.Types.{tile_of_kind, type_in, type_of_tile}
use Rattle.tile_types.proofs.Borrowed.{is_lent, lent_type, what_is_lent}
use Rattle.device_wires.specs.Gathered.{gathered}
use Rattle.device_wires.specs.Slots.{slot_wires}
use Rattle.device_wires.specs.declared.errors.WiresError.TheVariants.{TooMany}
use Rattle.device_wires.proofs.SoFar.{many_tiles, same_error, tile_more}
use Rattle.device_wires.proofs.gather.gather.Goals as goal

pub unwrap-kind-requires : goal.unwrap-kind-requires
unwrap-kind-requires c =
    let device = c.args.device.now in
    let tiles = c.as_slice-tiles.result.now in
    let i = c.loop-number.number in
    let all : tiles ≡ device.grid.tiles = c.as_slice-tiles.ensures ∙ ap (λ (g : Grid). g.tiles) c.grid.view_is ∙ ap (λ (d : Device). d.grid.tiles) c.device.view_is in
    let below : i < length tiles = (let n = c.loop-number-test.true in let m = c.len-number-end.ensures in let e = ap length c.as_slice-tiles.ensures in omega arith) in
    let d = tile_of_kind [] in
    is_lent c.of_tile.result (type_in device (get_or tiles i d)) (lent_type device c.args.types.now tiles i d c.of_tile.result c.requires all below (c.of_tile.ensures ∙ ap (type_of_tile c.args.types.now) c.from_u32.ensures))

pub loop-number-preserved : goal.loop-number-preserved
loop-number-preserved c =
    let device = c.args.device.now in
    let tiles = c.as_slice-tiles.result.now in
    let i = c.loop-number.number in
    let d = c.index-tiles-number.result in
    let all : tiles ≡ device.grid.tiles = c.as_slice-tiles.ensures ∙ ap (λ (g : Grid). g.tiles) c.grid.view_is ∙ ap (λ (d : Device). d.grid.tiles) c.device.view_is in
    let below : i < length tiles = (let n = c.loop-number-test.true in let m = c.len-number-end.ensures in let e = ap length c.as_slice-tiles.ensures in omega arith) in
    let lent = lent_type device c.args.types.now tiles i d c.of_tile.result c.requires all below (c.of_tile.ensures ∙ ap (type_of_tile c.args.types.now) c.from_u32.ensures) in
    let kind = what_is_lent c.of_tile.result c.unwrap-kind.result (type_in device (get_or tiles i d)) lent c.unwrap-kind.ensures in
    let tile : d ≡ get_or tiles i d = c.index-tiles-number.is in
    c.in_ok-add_tile.ensures.ok
    ∙ (λ j. gathered (c.loop-number.invariant j) (filter_map (wire_in (kind j).rules (tile j)) (kind j).names))
    ∙ tile_more (slot_wires device) tiles i d below

pub returns-in_err-add_tile-clause-many : goal.returns-in_err-add_tile-clause-many
returns-in_err-add_tile-clause-many c =
    let device = c.args.device.now in
    let tiles = c.as_slice-tiles.result.now in
    let i = c.loop-number.number in
    let d = c.index-tiles-number.result in
    let all : tiles ≡ device.grid.tiles = c.as_slice-tiles.ensures ∙ ap (λ (g : Grid). g.tiles) c.grid.view_is ∙ ap (λ (d : Device). d.grid.tiles) c.device.view_is in
    let below : i < length tiles = (let n = c.loop-number-test.true in let m = c.len-number-end.ensures in let e = ap length c.as_slice-tiles.ensures in omega arith) in
    let lent = lent_type device c.args.types.now tiles i d c.of_tile.result c.requires all below (c.of_tile.ensures ∙ ap (type_of_tile c.args.types.now) c.from_u32.ensures) in
    let kind = what_is_lent c.of_tile.result c.unwrap-kind.result (type_in device (get_or tiles i d)) lent c.unwrap-kind.ensures in
    let tile : d ≡ get_or tiles i d = c.index-tiles-number.is in
    let so_far = (λ j. gathered (c.loop-number.invariant j) (filter_map (wire_in (kind j).rules (tile j)) (kind j).names)) ∙ tile_more (slot_wires device) tiles i d below in
    let p = err_from_is_err_and c.from_residual.result c.from_residual.ensures.1 in
    rw (p.1, p.2) (λ is. subst (λ ts. most_wires < length (gathered [] (flat_map (slot_wires device) ts))) all
    (many_tiles (slot_wires device) tiles (i + 1) (subst (λ wires. most_wires < length wires) so_far (c.in_err-add_tile.ensures.many (same_error _ TooMany is)))))
