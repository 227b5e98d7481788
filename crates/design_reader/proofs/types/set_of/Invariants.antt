use Rattle.std.proofs.Common.{◌≡◌, length, map}
use Rattle.words.specs.Ordered.{in_order_once}
use Rattle.design_reader.proofs.InOrder.{put_kinds}
use Rattle.design_reader.proofs.types.set_of.Given as goal

-- the types of the tiles that are left, put among those so far, are those of all tiles in order
abbrev pub invariant-loop-tile : goal.invariant-loop-tile
invariant-loop-tile l = put_kinds l.left (map (λ kind. kind.now) l.kinds.keys) ≡ in_order_once (λ kind. kind) (map (λ tile. tile.kind) l.fn.tiles)

abbrev pub decreases-loop-tile : goal.decreases-loop-tile
decreases-loop-tile l = length l.left
