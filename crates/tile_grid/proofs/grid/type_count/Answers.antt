use Rattle.std.proofs.Common.{◌≡◌, List, ℕ, ap, ◌∙◌, map, take}
use Rattle.std.proofs.lemmas.List.{take_all}
use Rattle.records.specs.Grid.{Tile}
use Rattle.tile_grid.proofs.DifferentNames.{count_of_lent, one_name_more, kinds_more}
use Rattle.tile_grid.proofs.grid.type_count.Goals as goal

pub loop-tile-preserved : goal.loop-tile-preserved
loop-tile-preserved c = λ q.
    let tile = c.tile-item.result in
    let kinds : List (List ℕ) = map (λ (t : Tile). t.kind) (take c.loop-tile.tile-index c.args.tiles.now) in
    let kind : c.bytes.result.now ≡ tile.kind = c.bytes.ensures.same ∙ ap (λ (t : Tile). t.kind) c.tile.view_is in
    rw (kinds_more c.args.tiles.now c.loop-tile.tile-index tile c.loop-tile-test.true c.tile-item.is)
    (c.in_ok-insert.ensures.updates.0 q ∙ (rw (kind, c.loop-tile.invariant q) (one_name_more kinds tile.kind q.now)))

pub returns : goal.returns
returns c =
    let all : take c.loop-tile.tile-index c.args.tiles.now ≡ c.args.tiles.now = take_all _ _ c.loop-tile-test.false in
    c.len.ensures.len ∙ count_of_lent c.loop-tile.kinds.keys (map (λ (t : Tile). t.kind) c.args.tiles.now) c.len.ensures.ordered (λ q. c.loop-tile.invariant q ∙ rw all)
