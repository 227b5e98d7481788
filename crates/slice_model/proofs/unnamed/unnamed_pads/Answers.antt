use Rattle.std.proofs.Common.{◌≡◌, ◌++◌, ℕ, Some, sym, subst}
use Rattle.std.specs.Prelude.{filter, not, slice_get}
use Rattle.records.specs.Profile.{Profile}
use Rattle.cells.specs.Sites.{is_named, tile_pad_sites, unnamed_pads}
use Rattle.slice_model.proofs.OtherPads.{tile_step}
use Rattle.slice_model.proofs.unnamed.unnamed_pads.Goals as goal

pub loop-n-preserved : goal.loop-n-preserved
loop-n-preserved g c =
    tile_step c.args.profile.now c.args.names.now (g.G.NamedGraph.graph c.args.graph.now).grid.tiles c.loop-n.n c.tile.result.now c.loop-n.sites.items c.add_tile.new.sites.items (unnamed_pads (g.G.NamedGraph.graph c.args.graph.now) c.args.profile.now c.args.names.now)
    (subst (λ (m : ℕ). slice_get (g.G.NamedGraph.graph c.args.graph.now).grid.tiles m ≡ Some c.tile.result.now) c.from_u32-number.ensures (sym c.tile.ensures))
    (subst (λ (p : Profile). c.add_tile.new.sites.items ≡ c.loop-n.sites.items ++ filter (λ s. not (is_named c.args.names.now s)) (tile_pad_sites p c.loop-n.n c.tile.result.now)) c.in_ok-rows.ensures
    (subst (λ (m : ℕ). c.add_tile.new.sites.items ≡ c.loop-n.sites.items ++ filter (λ s. not (is_named c.args.names.now s)) (tile_pad_sites c.in_ok-rows.rows m c.tile.result.now)) c.from_u32-number.ensures c.in_ok-add_tile.ensures))
    c.loop-n.invariant
