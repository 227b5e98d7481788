use Rattle.cram_image.specs.Image.{bits}
use Rattle.chosen_links.specs.Fitting.{fits_in}
use Rattle.chosen_links.proofs.Gathering.{map_more}
use Rattle.chosen_links.proofs.fitting.fitting.Goals as goal

pub loop-a-preserved : goal.loop-a-preserved
loop-a-preserved g c =
    map_more (fits_in (bits c.args.image.now)) (g.G.NamedGraph.graph c.args.graph.now).arcs c.loop-a.a c.from_u32.result c.loop-a.fitting.items c.push.new.self.items c.fits.result
    c.from_u32.ensures c.fits.ensures c.in_ok-push.ensures.items c.loop-a.invariant
