use Rattle.std.proofs.Common.{◌≡◌, Some, map, sym, subst}
use Rattle.std.specs.Prelude.{IfOk, slice_get}
use Rattle.records.specs.Profile.{SliceKind}
use Rattle.cells.specs.Sites.{Site}
use Rattle.cells.specs.Takes.{wire_number}
use Rattle.slice_model.proofs.tables.pins_at.Goals as goal

pub returns : goal.returns
returns g c =
    subst (λ (s : Site SliceKind). IfOk c.wire_numbers.result (λ wires. wires ≡ map (wire_number (g.G.NamedGraph.graph c.args.graph.now) (g.G.RoutingGraph.device c.args.graph.now).profile.rules s.tile) c.args.names.now)) c.site.view_is
    (c.wire_numbers.ensures c.site.inside.tile.now (subst (λ (s : Site SliceKind). slice_get (g.G.NamedGraph.graph c.args.graph.now).grid.tiles s.number ≡ Some s.tile) (sym c.site.view_is) c.requires.at.at))
