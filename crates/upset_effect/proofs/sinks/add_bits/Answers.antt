use Rattle.std.proofs.Common.{◌++◌, ℕ, List, flat_map, ap, subst, ◌∙◌}
use Rattle.words.specs.Members.{In}
use Rattle.upset_effect.specs.Driven.{bit_sinks, sink_at}
use Rattle.upset_effect.proofs.Gathered.{flat_more}
use Rattle.upset_effect.proofs.Sunk.{with_bit_below}
use Rattle.upset_effect.proofs.sinks.add_bits.Goals as goal

pub add_sinks-requires : goal.add_sinks-requires
add_sinks-requires g c = λ m i. with_bit_below (g.G.NamedGraph.graph c.args.graph.now) c.b-item.result m (subst (λ (xs : List ℕ). In xs m) c.muxes_of_bit.ensures i)

pub loop-b-preserved : goal.loop-b-preserved
loop-b-preserved g c =
    let graph = g.G.NamedGraph.graph c.args.graph.now in
    flat_more (bit_sinks graph) c.args.flips.now c.loop-b.b-index c.b-item.result c.args.sinks.now.items c.loop-b.sinks.items c.add_sinks.new.sinks.items
    c.loop-b-test.true c.b-item.is c.loop-b.invariant
    (c.in_ok-add_sinks.ensures ∙ ap (λ (ms : List ℕ). c.loop-b.sinks.items ++ flat_map (sink_at graph) ms) c.muxes_of_bit.ensures)
