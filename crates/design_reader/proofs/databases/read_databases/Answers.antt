use Rattle.std.proofs.Common.{◌≡◌, ℕ, List, map, ap, subst, ◌∙◌}
use denote.Ref.{Bor}
use Rattle.records.specs.Grid.{Tile, Grid}
use Rattle.words.specs.Ordered.{in_order_once}
use Rattle.design_files.specs.Designs.{databases_in}
use Rattle.design_files.specs.Names.{types_of}
use Rattle.design_reader.specs.Answers.{Gives}
use Rattle.design_reader.specs.Reached.{IsDatabaseReached}
use Rattle.design_reader.proofs.Rising.{types_rise}
use Rattle.design_reader.proofs.databases.read_databases.Goals as goal

pub read_each-requires : goal.read_each-requires
read_each-requires g c =
    let same : map (λ kind. kind.now) c.as_slice-2.result.now ≡ types_of c.args.grid.now =
    ap (λ (ks : List (Bor (List ℕ))). map (λ kind. kind.now) ks) c.as_slice-2.ensures.value
    ∙ c.in_ok-kinds.ensures
    ∙ ap (λ (tiles : List Tile). in_order_once (λ kind. kind) (map (λ tile. tile.kind) tiles)) c.as_slice.ensures
    ∙ ap (λ (grid : Grid). types_of grid) c.grid.view_is in
    types_rise c.args.grid.now (map (λ kind. kind.now) c.as_slice-2.result.now) same

pub returns-clause-answer : goal.returns-clause-answer
returns-clause-answer g c = λ told.
    let same : map (λ kind. kind.now) c.as_slice-2.result.now ≡ types_of c.args.grid.now =
    ap (λ (ks : List (Bor (List ℕ))). map (λ kind. kind.now) ks) c.as_slice-2.ensures.value
    ∙ c.in_ok-kinds.ensures
    ∙ ap (λ (tiles : List Tile). in_order_once (λ kind. kind) (map (λ tile. tile.kind) tiles)) c.as_slice.ensures
    ∙ ap (λ (grid : Grid). types_of grid) c.grid.view_is in
    let files = g.F.Files.file c.args.files.now in
    let family : List ℕ = c.args.family.now in
    subst (λ (names : List (List ℕ)). Gives (λ databases. databases) (databases_in files family names) (IsDatabaseReached files family names) c.read_each.result) same
    (c.read_each.ensures.answer told)
