use Rattle.std.proofs.Common.{sym, subst}
use Rattle.records.specs.Profile.{PadKind}
use Rattle.records.specs.Side.{Placed}
use Rattle.cells.specs.Sites.{Site}
use Rattle.slice_model.specs.Grid.{StandsInGrid}
use Rattle.slice_model.proofs.AtSites.{stands_below}
use Rattle.slice_model.proofs.Walking.{item_in}
use Rattle.slice_model.proofs.pads.pad_cells.Goals as goal

pub pad_cell-requires-clause-at : goal.pad_cell-requires-clause-at
pad_cell-requires-clause-at g c =
    subst (λ (q : Placed × Site PadKind). StandsInGrid (g.G.NamedGraph.graph c.args.graph.now) q.1) (sym c.pad.view_is) (c.requires.each c.pad-item.result (item_in c.args.pads.now c.loop-pad.pad-index c.pad-item.result c.loop-pad-test.true c.pad-item.is))

pub pad_cell-requires-clause-there : goal.pad_cell-requires-clause-there
pad_cell-requires-clause-there g c =
    stands_below (g.G.NamedGraph.graph c.args.graph.now) c.pad.inside.site (subst (λ (q : Placed × Site PadKind). StandsInGrid (g.G.NamedGraph.graph c.args.graph.now) q.1) (sym c.pad.view_is) (c.requires.each c.pad-item.result (item_in c.args.pads.now c.loop-pad.pad-index c.pad-item.result c.loop-pad-test.true c.pad-item.is)))
