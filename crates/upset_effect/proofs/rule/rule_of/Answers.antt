use Rattle.patterns.specs.Bits.{bits_of_list}
use Rattle.std.proofs.Common.{◌∙◌, sym}
use Rattle.cram_image.specs.Image.{bits}
use Rattle.upset_effect.proofs.Rules.{fits_rule, present_rule}
use Rattle.upset_effect.proofs.rule.rule_of.Goals as goal

pub returns-then-is_affected : goal.returns-then-is_affected
returns-then-is_affected g c = present_rule (g.G.NamedGraph.graph c.args.graph.now) (bits c.args.image.now) (bits_of_list c.args.flips.now) c.args.m (sym c.is_affected.ensures ∙ c.if-is_affected.true)

pub returns : goal.returns
returns g c = fits_rule (g.G.RoutingGraph.device c.args.graph.now) (g.G.NamedGraph.graph c.args.graph.now) c.is_of_device.ensures (bits c.args.image.now) (bits_of_list c.args.flips.now) c.args.m c.longest_fit.result (sym c.is_affected.ensures ∙ c.if-is_affected.false) c.longest_fit.ensures
