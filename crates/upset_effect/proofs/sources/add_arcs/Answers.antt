use Rattle.patterns.specs.Bits.{bits_of_list}
use Rattle.net_links.proofs.Listed.{met}
use Rattle.cram_image.specs.Image.{bits}
use Rattle.upset_effect.specs.Passing.{passes, source_by}
use Rattle.upset_effect.proofs.Gathered.{flat_more}
use Rattle.upset_effect.proofs.sources.add_arcs.Goals as goal

pub add_arc-requires : goal.add_arc-requires
add_arc-requires g c = c.requires c.a-item.result (met c.args.arcs.now c.loop-a.a-index c.a-item.result c.loop-a-test.true c.a-item.is)

pub loop-a-preserved : goal.loop-a-preserved
loop-a-preserved g c =
    flat_more (source_by (g.G.NamedGraph.graph c.args.graph.now) (passes (bits c.args.image.now) (bits_of_list c.args.flips.now) c.args.rule)) c.args.arcs.now c.loop-a.a-index c.a-item.result
    c.args.sources.now.items c.loop-a.sources.items c.add_arc.new.sources.items c.loop-a-test.true c.a-item.is c.loop-a.invariant c.in_ok-add_arc.ensures
