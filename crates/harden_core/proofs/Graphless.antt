-- Devices without a graph.
use Rattle.records.specs.Limits.{Limit, limit_name}
use Rattle.fabric.specs.Graph.{Graph}
use Rattle.fabric.specs.GraphOf.{IsGraph}
use Rattle.fabric.specs.Wires.{Wire}
use Rattle.answers.specs.Refusals.{TooLarge, OverlapShape}
use Rattle.design_files.specs.Designs.{Design}
use Rattle.design_checks.specs.Checks.{Passes, Computed}
use Rattle.design_checks.specs.GraphChecks.{graph_name, graph_size_refusal, Overlap}
use Rattle.design_checks.specs.DesignChecks.{GraphRefused}
use Rattle.size_laws.specs.Sizes.{IsSmall, IsTooLarge, OverlapsAt, OverlapsNowhere}
use Rattle.load_routing.specs.declared.error.LoadError.{LoadError}
use Rattle.load_routing.specs.Refused.{IsRefusal, IsRefusedBy}
use Rattle.load_routing.proofs.Checked.{refused_by, first_refuses, second_refuses, both_pass, none_passes}

module _ (design : Design) (g : Graph) (is : IsGraph design.device g) where
  pub size_refuses : (limit : Limit) (e : LoadError) → IsTooLarge design.device limit → IsRefusal (TooLarge graph_name (limit_name limit)) e → IsRefusedBy (GraphRefused design g) e
  size_refuses limit e large says =
      first_refuses (Computed (graph_size_refusal g)) (Overlap design.device g) e (refused_by (Computed (graph_size_refusal g)) (TooLarge graph_name (limit_name limit)) e (large g is) says)

  pub overlap_refuses : (wire : Wire) (e : LoadError) → IsSmall design.device → OverlapsAt design.device wire → IsRefusal (OverlapShape wire) e → IsRefusedBy (GraphRefused design g) e
  overlap_refuses wire e small overlaps says =
      second_refuses (Computed (graph_size_refusal g)) (Overlap design.device g) e (none_passes (graph_size_refusal g) (small g is))
      (refused_by (Overlap design.device g) (OverlapShape wire) e (overlaps g is) says)

  pub graph_passes : IsSmall design.device → OverlapsNowhere design.device → Passes (GraphRefused design g)
  graph_passes small apart = both_pass (Computed (graph_size_refusal g)) (Overlap design.device g) (none_passes (graph_size_refusal g) (small g is)) (apart g is)
