use Rattle.std.proofs.Common.{◌≡◌, ◌++◌, ℕ, List, flat_map, ap, subst, ◌∙◌}
use Rattle.words.specs.Members.{In}
use Rattle.patterns.specs.Bits.{bits_of_list}
use Rattle.cram_image.specs.Image.{bits}
use Rattle.upset_effect.specs.Passing.{mux_sources, passes, source_by}
use Rattle.upset_effect.proofs.Gathered.{by_rule}
use Rattle.upset_effect.proofs.Outcomes.{on_ok}
use Rattle.upset_effect.proofs.Rules.{arc_below}
use Rattle.upset_effect.proofs.sources.add_mux.Goals as goal

pub add_arcs-requires : goal.add_arcs-requires
add_arcs-requires g c = λ a i. arc_below (g.G.NamedGraph.graph c.args.graph.now) c.args.m a (subst (λ (xs : List ℕ). In xs a) c.arcs_of.ensures i)

pub returns : goal.returns
returns g c =
    let graph = g.G.NamedGraph.graph c.args.graph.now in
    let image = bits c.args.image.now in
    let flips = bits_of_list c.args.flips.now in
    let old = c.args.sources.now.items in
    let new = c.add_arcs.new.sources.items in
    let rule = c.rule_of-rule.result in
    on_ok c.add_arcs.result (new ≡ old ++ flat_map (source_by graph (passes image flips rule)) c.arcs_of.result.now) (new ≡ old ++ mux_sources graph image flips c.args.m)
    (λ e. e ∙ ap (λ zs. old ++ zs) (ap (λ (xs : List ℕ). flat_map (source_by graph (passes image flips rule)) xs) c.arcs_of.ensures ∙ by_rule graph image flips c.args.m rule c.rule_of-rule.ensures)) c.add_arcs.ensures
