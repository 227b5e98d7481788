use Rattle.std.proofs.Common.{◌≡◌, ◌++◌, [], ap, ◌∙◌, filter, map, bytes_eq}
use Rattle.std.specs.Option.{option_map_or}
use Rattle.records.specs.Grid.{Tile}
use Rattle.records.specs.Profile.{Profile, Join}
use Rattle.fabric.specs.Device.{Device}
use Rattle.device_names.specs.TileNames.{joined}
use Rattle.fixed_links.specs.Slots.{fixed_slots}
use Rattle.fixed_links.proofs.OfTypes.{fixed_made}
use Rattle.fixed_links.proofs.shapes.fixed_of.Goals as goal

pub returns : goal.returns
returns c =
    let device = c.args.device.now in
    let names = c.args.kind.now.names in
    let joins : c.profile.inside.joins ≡ device.profile.joins = ap (λ (p : Profile). p.joins) c.profile.view_is ∙ ap (λ (d : Device). d.profile.joins) c.device.view_is in
    let kind : c.tile.inside.kind ≡ c.args.tile.now.kind = ap (λ (t : Tile). t.kind) c.tile.view_is in
    fixed_made device c.args.tile.now c.args.kind.now c.add_joins.new.slots.items c.requires
    (c.in_ok-add_joins.ensures
    ∙ (λ i. c.in_ok-add_database.ensures i ++ map (λ j. fixed_slots names (joined j)) (filter (λ (j : Join). bytes_eq j.tile (kind i)) (c.as_slice.ensures i)))
    ∙ (λ i. (c.new-slots.ensures.items i ++ map (fixed_slots names) (option_map_or (λ d. d.fixed) (c.database.ensures i) [])) ++ map (λ j. fixed_slots names (joined j)) (filter (λ (j : Join). bytes_eq j.tile c.args.tile.now.kind) (joins i))))
