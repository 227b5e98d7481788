use Rattle.std.proofs.Common.{◌<◌, false, get_or, length, subst, ◌∙◌, arith}
use Rattle.chosen_links.specs.Fitting.{RaisedFor, fits_in}
use Rattle.chosen_links.proofs.Gathering.{image_at}
use Rattle.chosen_links.proofs.Longest.{most_more}
use Rattle.chosen_links.proofs.most.most_bits.Goals as goal

pub loop-a-preserved : goal.loop-a-preserved
loop-a-preserved g c =
    let within : c.loop-a.a < length (g.G.NamedGraph.graph c.args.graph.now).arcs = (let t = c.loop-a-test.true in let e = c.arcs-a-end.ensures in omega arith) in record {
      long = c.raise_for.ensures.long ∙ c.loop-a.invariant.long;
      most = λ image h.
          most_more (g.G.NamedGraph.graph c.args.graph.now) image c.args.fitting.now c.loop-a.a c.loop-a.most.items c.raise_for.new.most.items within h
          (image_at (fits_in image) (g.G.NamedGraph.graph c.args.graph.now).arcs c.args.fitting.now c.loop-a.a h within)
          (subst (λ a. RaisedFor (g.G.NamedGraph.graph c.args.graph.now) a (get_or c.args.fitting.now c.loop-a.a false) c.loop-a.most.items c.raise_for.new.most.items) c.from_u32.ensures c.raise_for.ensures.most)
          (c.loop-a.invariant.most image h);
    }
