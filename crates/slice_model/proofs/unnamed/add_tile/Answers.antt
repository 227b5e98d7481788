use Rattle.std.proofs.Common.{◌≡◌, ◌++◌, true, false, List, map, ap, subst, ◌∙◌}
use Rattle.std.specs.Prelude.{OnOk, not}
use Rattle.std.specs.Option.{is_some}
use Rattle.records.specs.Grid.{Tile}
use Rattle.records.specs.Profile.{PadKind}
use Rattle.cells.specs.Sites.{Site}
use Rattle.slice_model.proofs.OtherPads.{tile_none, tile_some}
use Rattle.slice_model.proofs.unnamed.add_tile.Goals as goal
use denote.Ref.{Bor}

pub returns-then-is_none : goal.returns-then-is_none
returns-then-is_none c =
    tile_none c.args.rows.now c.args.names.now c.args.number c.args.tile.now c.args.sites.now.items (subst (λ (t : Tile). is_some t.place ≡ false) c.tile.view_is (c.is_none.ensures ∙ ap not c.if-is_none.true))

pub returns-in-Some : goal.returns-in-Some
returns-in-Some c =
    subst (λ (ss : List (Site PadKind)). OnOk c.add_kinds.result (c.add_kinds.new.sites.items ≡ c.args.sites.now.items ++ ss))
    (tile_some c.args.rows.now c.args.names.now c.args.number c.args.tile.now (map (λ (k : Bor PadKind). k.now) c.as_slice.result.now)
    (subst (λ (t : Tile). is_some t.place ≡ true) c.tile.view_is (c.is_none.ensures ∙ ap not c.if-is_none.false)) (ap (map (λ (k : Bor PadKind). k.now)) c.as_slice.ensures ∙ c.in-Some.ensures))
    c.add_kinds.ensures
