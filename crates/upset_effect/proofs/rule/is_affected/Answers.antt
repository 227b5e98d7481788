use Rattle.std.proofs.Common.{◌∙◌}
use Rattle.patterns.specs.Bits.{bits_of_list}
use Rattle.upset_effect.proofs.Affected.{affected_is}
use Rattle.upset_effect.proofs.rule.is_affected.Goals as goal

pub returns : goal.returns
returns g c = c.is_one_among.ensures ∙ affected_is (g.G.NamedGraph.graph c.args.graph.now) (bits_of_list c.args.flips.now) c.args.m c.bits_of.result.now c.bits_of.ensures
