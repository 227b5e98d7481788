use Rattle.std.proofs.Common.{◌≡◌, ◌<◌, length, map, Some, None, ap, subst, ◌∙◌, bytes_eq}
use Rattle.std.specs.Prelude.{position}
use Rattle.records.specs.Grid.{Grid, Tile}
use Rattle.database_names.specs.Places.{place_in}
use Rattle.database_names.proofs.Firsts.{below, place_is_position}
use Rattle.tile_names.proofs.names.TileNames.tile_named.Goals as goal

pub returns-in-Some-clause-named : goal.returns-in-Some-clause-named
returns-in-Some-clause-named c =
    let tiles = c.self.inside.grid.now.tiles in
    let name = c.args.name.now in
    let found : Some c.in-Some.number ≡ place_in (map (λ (t : Tile). t.name) tiles) name = c.in-Some.ensures (map (λ (t : Tile). t.name) tiles) c.self.invariant in
    ap (λ n. Some n) c.from_u32.ensures ∙ (found ∙ (place_is_position (λ (t : Tile). t.name) name tiles ∙ ap (λ (g : Grid). position (λ t. bytes_eq t.name name) g.tiles) c.self.view_is))

pub returns-in-Some-clause-there : goal.returns-in-Some-clause-there
returns-in-Some-clause-there c =
    let tiles = c.self.inside.grid.now.tiles in
    let name = c.args.name.now in
    let found : Some c.in-Some.number ≡ place_in (map (λ (t : Tile). t.name) tiles) name = c.in-Some.ensures (map (λ (t : Tile). t.name) tiles) c.self.invariant in
    let number : Some c.from_u32.result ≡ place_in (map (λ (t : Tile). t.name) tiles) name = ap (λ n. Some n) c.from_u32.ensures ∙ found in
    subst (λ (g : Grid). c.from_u32.result < length g.tiles) c.self.view_is (below (λ (t : Tile). t.name) name tiles c.from_u32.result number)

pub returns-in-None-clause-named : goal.returns-in-None-clause-named
returns-in-None-clause-named c =
    let tiles = c.self.inside.grid.now.tiles in
    let name = c.args.name.now in
    let missing : None ≡ place_in (map (λ (t : Tile). t.name) tiles) name = c.in-None.ensures (map (λ (t : Tile). t.name) tiles) c.self.invariant in
    missing ∙ (place_is_position (λ (t : Tile). t.name) name tiles ∙ ap (λ (g : Grid). position (λ t. bytes_eq t.name name) g.tiles) c.self.view_is)
