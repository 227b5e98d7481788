use Rattle.std.proofs.Common.{sym, subst}
use Rattle.records.specs.Profile.{SliceKind}
use Rattle.records.specs.Side.{Placed}
use Rattle.cells.specs.Sites.{Site}
use Rattle.cram_image.specs.Image.{bits}
use Rattle.slice_model.specs.Grid.{StandsInGrid, HaveSmallWords}
use Rattle.slice_model.proofs.AtSites.{stands_below}
use Rattle.slice_model.proofs.Walking.{item_in}
use Rattle.slice_model.proofs.slices.slice_cells.Goals as goal

pub slice_cell-requires-clause-at : goal.slice_cell-requires-clause-at
slice_cell-requires-clause-at g c =
    subst (λ (q : Placed × Site SliceKind). StandsInGrid (g.G.NamedGraph.graph c.args.graph.now) q.1) (sym c.slice.view_is) (c.requires.at.each c.slice-item.result (item_in c.args.slices.now c.loop-slice.slice-index c.slice-item.result c.loop-slice-test.true c.slice-item.is))

pub slice_cell-requires-clause-there : goal.slice_cell-requires-clause-there
slice_cell-requires-clause-there g c =
    stands_below (g.G.NamedGraph.graph c.args.graph.now) c.slice.inside.site (subst (λ (q : Placed × Site SliceKind). StandsInGrid (g.G.NamedGraph.graph c.args.graph.now) q.1) (sym c.slice.view_is) (c.requires.at.each c.slice-item.result (item_in c.args.slices.now c.loop-slice.slice-index c.slice-item.result c.loop-slice-test.true c.slice-item.is)))

pub slice_cell-requires-clause-small : goal.slice_cell-requires-clause-small
slice_cell-requires-clause-small g c =
    subst (λ (q : Placed × Site SliceKind). HaveSmallWords (g.G.NamedGraph.graph c.args.graph.now) (bits c.args.image.now) q.1.number q.1.kind.tables) (sym c.slice.view_is) (c.requires.small.each c.slice-item.result (item_in c.args.slices.now c.loop-slice.slice-index c.slice-item.result c.loop-slice-test.true c.slice-item.is))
