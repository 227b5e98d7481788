use Rattle.std.proofs.Common.{◌≡◌, ◌∷◌, ◌++◌, [], None, ap, sym, ◌∙◌}
use Rattle.records.specs.Grid.{Tile}
use Rattle.name_numbers.specs.Numbers.{number_of, with_name}
use Rattle.tile_types.specs.Types.{types_of}
use Rattle.tile_types.proofs.OfTiles.{new_type}
use Rattle.tile_types.proofs.types.add_type.Goals as goal

pub returns-clause-types : goal.returns-clause-types
returns-clause-types c =
    let device = c.args.device.now in
    let tile = c.args.tile.now in
    let kinds = c.args.kinds.now in
    let kind : c.tile.inside.kind ≡ tile.kind = ap (λ (t : Tile). t.kind) c.tile.view_is in
    let absent : number_of kinds tile.kind ≡ None = ap (number_of kinds) (sym (c.bytes.ensures.same ∙ kind)) ∙ sym c.number.ensures ∙ c.in_default.is in
    c.in_ok-push.ensures.items
    ∙ (λ i. c.requires.types i ++ c.in_ok-of.ensures i ∷ [])
    ∙ sym (new_type device kinds tile absent)
    ∙ ap (λ k. types_of device (with_name kinds k)) (sym kind)
    ∙ ap (types_of device) (sym c.in_ok-number.ensures.ok)
