use Rattle.std.proofs.Common.{subst}
use Rattle.patterns.specs.Bits.{Bits}
use Rattle.fabric.specs.Image.{image_of}
use Rattle.cram_image.specs.Image.{bits}
use Rattle.design_checks.specs.Checks.{◌before◌, Computed}
use Rattle.design_checks.specs.LineChecks.{line_refusal}
use Rattle.design_checks.specs.RoutingChecks.{ArcsDiffer, AreContested}
use Rattle.load_routing.specs.Refused.{IsRefusedBy}
use Rattle.load_routing.proofs.Checked.{second_refuses}
use Rattle.load_routing.proofs.Refusing.{named_stands}
use Rattle.load_routing.proofs.routed.live_or_refused.Goals as goal

pub image_or_refused-requires : goal.image_or_refused-requires
image_or_refused-requires g c = c.graph_of_device_stands.ensures (g.G.RoutingGraph.device c.args.graph.now) (g.G.NamedGraph.graph c.args.graph.now) c.is_of_device.ensures

pub live_refused-requires : goal.live_refused-requires
live_refused-requires g c = named_stands (g.G.NamedGraph.graph c.args.graph.now) (bits c.in_ok-image.image) c.args.config.now c.in-Err.error c.in-Err.ensures.answer

pub returns-in-Err-clause-answer : goal.returns-in-Err-clause-answer
returns-in-Err-clause-answer g c =
    second_refuses (Computed (line_refusal (g.G.NamedGraph.graph c.args.graph.now) c.args.config.now))
    (ArcsDiffer (g.G.NamedGraph.graph c.args.graph.now) (image_of (g.G.NamedGraph.graph c.args.graph.now) c.args.config.now) c.args.config.now before AreContested (g.G.NamedGraph.graph c.args.graph.now) (image_of (g.G.NamedGraph.graph c.args.graph.now) c.args.config.now))
    c.live_refused.result c.in_ok-image.ensures.1
    (subst (λ (b : Bits). IsRefusedBy (ArcsDiffer (g.G.NamedGraph.graph c.args.graph.now) b c.args.config.now before AreContested (g.G.NamedGraph.graph c.args.graph.now) b) c.live_refused.result) c.in_ok-image.ensures.0
    (c.live_refused.ensures (bits c.in_ok-image.image) c.args.config.now c.in-Err.ensures.answer))
