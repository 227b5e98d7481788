use Rattle.std.proofs.Common.{◌≡◌, ℕ, List, map, get_or, slice_get, Some, ap, sym, ◌∙◌}
use Rattle.records.specs.Grid.{Tile}
use Rattle.name_numbers.specs.Numbers.{number_of, with_name}
use Rattle.name_numbers.proofs.Pushed.{each_once_more}
use Rattle.tile_types.specs.Types.{types_of}
use Rattle.tile_types.proofs.OfTiles.{one_tile_more}
use Rattle.tile_types.proofs.types.types_of_tiles.Goals as goal

pub loop-tile-preserved : goal.loop-tile-preserved
loop-tile-preserved c =
    let device = c.args.device.now in
    let tiles = c.args.tiles.now in
    let i = c.loop-tile.tile-index in
    let kind_of : Tile → List ℕ = λ tile. tile.kind in
    let tile = get_or tiles i c.tile-item.result in
    let kinds = c.loop-tile.kinds in
    let kind : kind_of c.tile-item.result ≡ tile.kind = ap kind_of c.tile-item.is in
    let more : c.add_type.new.kinds ≡ with_name kinds tile.kind = c.in_ok-number.ensures.kinds ∙ ap (with_name kinds) kind in
    let number : Some c.in_ok-number.number ≡ number_of (with_name kinds tile.kind) tile.kind = c.in_ok-number.ensures.number ∙ (λ j. number_of (more j) (kind j)) in
    record {
      types = c.in_ok-number.ensures.types;
      kinds = more ∙ ap (λ ks. with_name ks tile.kind) c.loop-tile.invariant.kinds ∙ sym (each_once_more kind_of tiles i c.tile-item.result c.loop-tile-test.true);
      numbers = (λ j. map (slice_get (types_of device (more j))) (c.in_ok-push.ensures.items j))
          ∙ one_tile_more device tiles i c.tile-item.result kinds c.loop-tile.of_tiles.items c.in_ok-number.number c.loop-tile-test.true c.loop-tile.invariant.numbers number;
    }
