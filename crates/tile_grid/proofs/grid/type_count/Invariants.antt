use Rattle.std.proofs.Common.{◌≡◌, ℕ, List, take, map, bytes_eq, Bor}
use Rattle.std.specs.BTreeSet.{contains}
use Rattle.std.specs.Set.{is_member}
use Rattle.tile_grid.proofs.DifferentNames.{lent_cmp}
use Rattle.tile_grid.proofs.grid.type_count.Given as goal

-- the set holds the types so far
abbrev pub invariant-loop-tile : goal.invariant-loop-tile
invariant-loop-tile l = (q : Bor (List ℕ)) → contains lent_cmp l.kinds q ≡ is_member bytes_eq (map (λ tile. tile.kind) (take l.tile-index l.tiles)) q.now
