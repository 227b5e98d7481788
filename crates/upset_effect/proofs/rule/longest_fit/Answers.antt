use Rattle.std.proofs.Common.{ℕ, List, take, max, cond, refl, sym, ap, subst, ◌∙◌}
use Rattle.words.specs.Members.{In}
use Rattle.net_links.proofs.Listed.{met}
use Rattle.cram_image.specs.Image.{bits}
use Rattle.std.specs.Prelude.{slice_get}
use Rattle.chosen_arcs.proofs.Longest.{most_step}
use Rattle.chosen_links.specs.Fitting.{fits_in}
use Rattle.upset_effect.specs.Passing.{bits_at, fits_at}
use Rattle.upset_effect.proofs.Rules.{arc_below, told_length, told_or}
use Rattle.upset_effect.proofs.rule.longest_fit.Goals as goal

pub fits-requires : goal.fits-requires
fits-requires g c = arc_below (g.G.NamedGraph.graph c.args.graph.now) c.args.m c.a-item.result (subst (λ (xs : List ℕ). In xs c.a-item.result) c.arcs_of-a-items.ensures (met c.arcs_of-a-items.result.now c.loop-a.a-index c.a-item.result c.loop-a-test.true c.a-item.is))

pub loop-a-preserved : goal.loop-a-preserved
loop-a-preserved g c =
    let graph = g.G.NamedGraph.graph c.args.graph.now in
    let image = bits c.args.image.now in
    let numbers = c.arcs_of-a-items.result.now in
    most_step (fits_at graph image) (bits_at graph) (take c.loop-a.a-index numbers) numbers c.loop-a.a-index c.loop-a.longest c.longer-longest.result c.a-item.result c.fits.result
    c.loop-a-test.true c.a-item.is refl c.loop-a.invariant
    (sym (told_or (fits_in image) (slice_get graph.arcs c.a-item.result) c.fits.result _ c.fits.ensures))
    (c.longer-longest.ensures ∙ ap (λ (n : ℕ). cond c.fits.result (max n c.loop-a.longest) c.loop-a.longest) (sym (told_length (slice_get graph.arcs c.a-item.result) c.pattern.result.now c.pattern.ensures)))
