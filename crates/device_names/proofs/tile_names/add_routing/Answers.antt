use Rattle.std.proofs.Common.{◌≡◌, ◌++◌, ap, ◌∙◌, option_map, filter, bytes_eq, append_assoc}
use Rattle.std.specs.Prelude.{flat_map}
use Rattle.records.specs.Grid.{Tile}
use Rattle.records.specs.Profile.{Profile, Join}
use Rattle.fabric.specs.Device.{Device}
use Rattle.device_names.specs.Types.{type_named}
use Rattle.device_names.specs.TileNames.{database_names, fixed_names, joined}
use Rattle.device_names.proofs.SameNames.{routing_same}
use Rattle.device_names.proofs.tile_names.add_routing.Goals as goal

pub returns : goal.returns
returns c =
    let device = c.args.device.now in
    let rules : c.profile.inside.rules ≡ device.profile.rules = ap (λ (p : Profile). p.rules) c.profile.view_is ∙ ap (λ (d : Device). d.profile.rules) c.device.view_is in
    let joins : c.profile.inside.joins ≡ device.profile.joins = ap (λ (p : Profile). p.joins) c.profile.view_is ∙ ap (λ (d : Device). d.profile.joins) c.device.view_is in
    let types : c.device.inside.databases.now ≡ device.types = ap (λ (d : Device). d.types) c.device.view_is in
    let kind : c.tile.inside.kind ≡ c.args.tile.now.kind = ap (λ (t : Tile). t.kind) c.tile.view_is in
    c.in_ok-add_joins.ensures
    ∙ (λ i. c.in_ok-add_database.ensures i ++ flat_map (λ j. fixed_names c.profile.inside.rules (joined j)) (filter (λ j. bytes_eq j.tile c.tile.inside.kind) (c.as_slice.ensures i)))
    ∙ (λ i. c.args.names.now ++ database_names (rules i) (c.get.ensures i) ++ flat_map (λ j. fixed_names (rules i) (joined j)) (filter (λ (j : Join). bytes_eq j.tile (kind i)) (joins i)))
    ∙ (λ i. c.args.names.now ++ database_names device.profile.rules (option_map (λ t. t.db) (type_named (types i) (kind i)))
    ++ flat_map (λ j. fixed_names device.profile.rules (joined j)) (filter (λ (j : Join). bytes_eq j.tile c.args.tile.now.kind) device.profile.joins))
    ∙ append_assoc c.args.names.now (database_names device.profile.rules (option_map (λ t. t.db) (type_named device.types c.args.tile.now.kind)))
    (flat_map (λ j. fixed_names device.profile.rules (joined j)) (filter (λ (j : Join). bytes_eq j.tile c.args.tile.now.kind) device.profile.joins))
    ∙ ap (λ names. c.args.names.now ++ names) (routing_same device c.args.tile.now)
