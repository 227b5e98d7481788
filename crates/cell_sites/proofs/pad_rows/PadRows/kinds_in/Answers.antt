use Rattle.std.proofs.Common.{ap₂, ◌∙◌, bytes_eq}
use Rattle.std.specs.Prelude.{filter}
use Rattle.words.specs.Ordered.{in_order}
use Rattle.records.specs.Grid.{Tile}
use Rattle.records.specs.Profile.{PadKind, Profile}
use Rattle.cell_sites.proofs.Filtering.{filtered}
use Rattle.cell_sites.proofs.pad_rows.PadRows.kinds_in.Goals as goal

pub returns : goal.returns
returns c =
    c.row.ensures (in_order (λ (k : PadKind). k.name) c.self.inside.profile.now.pads) c.self.invariant.held
    ∙ (filtered (λ (k : PadKind). k.name) (λ (k : PadKind). bytes_eq k.tile c.tile.inside.kind) c.self.inside.profile.now.pads
    ∙ ap₂ (λ (p : Profile) (t : Tile). in_order (λ (k : PadKind). k.name) (filter (λ (k : PadKind). bytes_eq k.tile t.kind) p.pads)) c.self.view_is c.tile.view_is)
