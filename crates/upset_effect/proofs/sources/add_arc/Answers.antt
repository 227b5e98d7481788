use Rattle.std.proofs.Common.{◌≡◌, ◌++◌, ◌∷◌, [], Some, cond, sym, ap, ◌∙◌}
use Rattle.patterns.specs.Bits.{bits_of_list}
use Rattle.cram_image.specs.Image.{bits}
use Rattle.upset_effect.specs.Passing.{passes, source_by}
use Rattle.upset_effect.proofs.Gathered.{added}
use Rattle.upset_effect.proofs.Outcomes.{on_ok}
use Rattle.upset_effect.proofs.sources.add_arc.Goals as goal

pub returns : goal.returns
returns g c =
    let graph = g.G.NamedGraph.graph c.args.graph.now in
    let test = passes (bits c.args.image.now) (bits_of_list c.args.flips.now) c.args.rule in
    let old = c.args.sources.now.items in
    let new = c.add_if.new.wires.items in
    on_ok c.add_if.result (new ≡ cond c.passes.result (old ++ c.source.inside.source ∷ []) old) (new ≡ old ++ source_by graph test c.args.a)
    (added graph test c.args.a c.passes.result _ old new c.passes.ensures (c.arc.ensures ∙ ap (λ n. Some n) (sym c.source.view_is))) c.add_if.ensures
