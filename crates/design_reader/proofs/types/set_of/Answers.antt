use Rattle.std.proofs.Common.{◌≡◌, ◌++◌, ◌∷◌, [], map, ap, rules}
use Rattle.records.specs.Grid.{Tile}
use Rattle.words.specs.Ordered.{in_order_once}
use Rattle.design_reader.proofs.InOrder.{put_last}
use Rattle.design_reader.proofs.types.set_of.Goals as goal

pub loop-tile-preserved : goal.loop-tile-preserved
loop-tile-preserved c =
    let parts : c.loop-tile.left.now ≡ c.in-Some.front.now ++ c.in-Some.tile.now ∷ [] = search rules in
    put_last c.loop-tile.left.now c.in-Some.front.now c.in-Some.tile.now c.loop-tile.kinds.keys c.insert.new.self.keys _
    (in_order_once (λ kind. kind) (map (λ tile. tile.kind) c.args.tiles.now)) parts (ap (λ (t : Tile). t.kind) c.tile.view_is) c.in_ok-insert.ensures.keys c.loop-tile.invariant
