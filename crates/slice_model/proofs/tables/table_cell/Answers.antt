use Rattle.std.proofs.Common.{◌≡◌, ℕ, Some, map, sym, ap, subst, ◌∙◌}
use Rattle.std.specs.Prelude.{slice_get}
use Rattle.records.specs.Profile.{TableKind, SliceKind}
use Rattle.cells.specs.Resolved.{table_cell}
use Rattle.cells.specs.Sites.{Site}
use Rattle.cells.specs.Takes.{wire_number}
use Rattle.cram_image.specs.Image.{bits}
use Rattle.slice_model.specs.Grid.{table_word}
use Rattle.slice_model.proofs.Settings.{table_of, table_made}
use Rattle.slice_model.proofs.tables.table_cell.Goals as goal

pub returns : goal.returns
returns g c =
    let at : slice_get (g.G.NamedGraph.graph c.args.graph.now).grid.tiles c.site.inside.number ≡ Some c.args.site.now.tile =
    subst (λ (n : ℕ). slice_get (g.G.NamedGraph.graph c.args.graph.now).grid.tiles n ≡ Some c.args.site.now.tile) (sym (ap (λ (s : Site SliceKind). s.number) c.site.view_is)) c.requires.at.at in
    subst (λ (t : TableKind). table_of c.word_at.result c.in_ok-pins_at.field-0 c.wire_number.result ≡ table_cell (g.G.NamedGraph.graph c.args.graph.now) (g.G.RoutingGraph.device c.args.graph.now).profile.rules (bits c.args.image.now) c.args.site.now t) c.table.view_is
    (table_made c.word_at.result (table_word (g.G.NamedGraph.graph c.args.graph.now) (bits c.args.image.now) c.args.site.now.number c.table.inside.word) c.in_ok-pins_at.field-0 (map (wire_number (g.G.NamedGraph.graph c.args.graph.now) (g.G.RoutingGraph.device c.args.graph.now).profile.rules c.args.site.now.tile) c.table.inside.pins)
    c.wire_number.result (wire_number (g.G.NamedGraph.graph c.args.graph.now) (g.G.RoutingGraph.device c.args.graph.now).profile.rules c.args.site.now.tile c.table.inside.out)
    c.word_at.ensures (c.in_ok-pins_at.ensures ∙ ap (map (wire_number (g.G.NamedGraph.graph c.args.graph.now) (g.G.RoutingGraph.device c.args.graph.now).profile.rules c.args.site.now.tile)) c.as_slice.ensures) (c.wire_number.ensures c.args.site.now.tile at))
