use Rattle.std.proofs.Common.{◌≡◌, ◌++◌, ℕ, List, flat_map, ap, subst, ◌∙◌}
use Rattle.words.specs.Members.{In}
use Rattle.patterns.specs.Bits.{bits_of_list}
use Rattle.graph_lists.specs.ArcLists.{muxes_into}
use Rattle.cram_image.specs.Image.{bits}
use Rattle.upset_effect.specs.Passing.{mux_sources}
use Rattle.upset_effect.proofs.Gathered.{are_after, mux_below}
use Rattle.upset_effect.proofs.sources.sources_after.Goals as goal

pub add_muxes-requires : goal.add_muxes-requires
add_muxes-requires g c = λ m i. mux_below (g.G.NamedGraph.graph c.args.graph.now) c.args.w m (subst (λ (xs : List ℕ). In xs m) c.muxes_into.ensures i)

pub returns : goal.returns
returns g c =
    let graph = g.G.NamedGraph.graph c.args.graph.now in
    let image = bits c.args.image.now in
    let flips = bits_of_list c.args.flips.now in
    let gathered : c.add_muxes.new.sources.items ≡ flat_map (mux_sources graph image flips) (muxes_into graph c.args.w) =
    c.in_ok-add_muxes.ensures ∙ (ap (λ (zs : List ℕ). zs ++ flat_map (mux_sources graph image flips) c.muxes_into.result.now) c.new-sources.ensures.items
    ∙ ap (λ (ms : List ℕ). flat_map (mux_sources graph image flips) ms) c.muxes_into.ensures) in
    are_after (g.G.RoutingGraph.device c.args.graph.now) graph c.is_of_device.ensures image flips c.args.w c.add_muxes.new.sources.items c.fixed_into.result.now c.extend_from_slice.new.self.items c.in_order.result.items
    gathered c.fixed_into.ensures c.in_ok-extend_from_slice.ensures.items c.in_order.ensures
