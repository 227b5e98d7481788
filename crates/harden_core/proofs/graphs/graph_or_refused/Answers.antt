use Rattle.std.proofs.Common.{sym, subst}
use Rattle.fabric.specs.Device.{Device}
use Rattle.fabric.specs.GraphOf.{IsGraph}
use Rattle.number_lists.specs.Routed.{graph_of}
use Rattle.size_laws.specs.Sizes.{IsSmall, OverlapsNowhere}
use Rattle.harden_core.proofs.Graphless.{graph_passes}
use Rattle.harden_core.proofs.graphs.graph_or_refused.Goals as goal

pub returns-in-Ok-clause-answer : goal.returns-in-Ok-clause-answer
returns-in-Ok-clause-answer c = λ design same.
    graph_passes design (graph_of c.in-Ok.graph) (subst (λ (d : Device). IsGraph d (graph_of c.in-Ok.graph)) (sym same) c.in-Ok.ensures.graph)
    (subst IsSmall (sym same) c.in-Ok.ensures.small) (subst OverlapsNowhere (sym same) c.in-Ok.ensures.apart)
