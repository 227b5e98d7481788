use Rattle.words.specs.Firsts.{or_else}
use Rattle.cells.specs.Sites.{unnamed_pads}
use Rattle.cram_image.specs.Image.{bits}
use Rattle.slice_model.specs.Turns.{slices_fault, pads_fault, unnamed_faults}
use Rattle.slice_model.proofs.SmallWords.{words_small, none_both}
use Rattle.slice_model.proofs.whole.cells_at_sites.Goals as goal

pub made-requires-clause-small : goal.made-requires-clause-small
made-requires-clause-small g c =
    words_small (g.G.NamedGraph.graph c.args.graph.now) (bits c.args.image.now) c.args.slices.now c.requires.few
    (none_both (slices_fault (g.G.NamedGraph.graph c.args.graph.now) (bits c.args.image.now) c.args.slices.now)
    (or_else (pads_fault (g.G.NamedGraph.graph c.args.graph.now) (bits c.args.image.now) c.args.names.now c.args.pads.now) (unnamed_faults (g.G.NamedGraph.graph c.args.graph.now) (bits c.args.image.now) (unnamed_pads (g.G.NamedGraph.graph c.args.graph.now) c.args.profile.now c.args.names.now))) (tt {0}) (tt {0}) c.in_ok-first_fault.ensures)
