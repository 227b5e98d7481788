use Rattle.patterns.specs.Bits.{bits_of_list}
use Rattle.net_links.proofs.Listed.{met}
use Rattle.cram_image.specs.Image.{bits}
use Rattle.upset_effect.specs.Passing.{mux_sources}
use Rattle.upset_effect.proofs.Gathered.{flat_more}
use Rattle.upset_effect.proofs.sources.add_muxes.Goals as goal

pub add_mux-requires : goal.add_mux-requires
add_mux-requires g c = c.requires c.m-item.result (met c.args.muxes.now c.loop-m.m-index c.m-item.result c.loop-m-test.true c.m-item.is)

pub loop-m-preserved : goal.loop-m-preserved
loop-m-preserved g c =
    flat_more (mux_sources (g.G.NamedGraph.graph c.args.graph.now) (bits c.args.image.now) (bits_of_list c.args.flips.now)) c.args.muxes.now c.loop-m.m-index c.m-item.result
    c.args.sources.now.items c.loop-m.sources.items c.add_mux.new.sources.items c.loop-m-test.true c.m-item.is c.loop-m.invariant c.in_ok-add_mux.ensures
