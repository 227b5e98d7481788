-- Why a routing isn't live.
use Rattle.std.specs.Prelude.{◌≡◌, Some, slice_get}
use Rattle.patterns.specs.Bits.{Bits}
use Rattle.records.specs.Config.{Config}
use Rattle.links.specs.Links.{Routing}
use Rattle.fabric.specs.Wires.{Wire}
use Rattle.fabric.specs.Graph.{Graph}
use Rattle.fabric.specs.Agree.{ArcsAgree}
use Rattle.answers.specs.Refusals as answers
use Rattle.design_checks.specs.RoutingChecks.{AreContested}
use Rattle.wire_contests.specs.declared.contest.Contest.{Contest}
use Rattle.wire_contests.specs.Contests.{IsContest}
use Rattle.arc_lines.specs.Differing.{IsRefusedMux}
use Rattle.live_routing.specs.declared.error.LiveError.{LiveError}
use Rattle.live_routing.specs.declared.error.LiveError.TheVariants.{ArcDiffers, Contested, Memory}

-- an error of links names what contests the routing; want of memory says nothing of it, and no other error comes
abbrev pub Contests : Routing → LiveError → Type 0
Contests r (ArcDiffers m) = ⊥
Contests r (Contested c) = IsContest r c
Contests r Memory = Unit {0}

-- the check of contested wires refuses these wires, by their names
pub record IsRefusedContest (g : Graph) (image : Bits) (c : Contest) : Type 0 where
  pub wire : Wire
  pub first : Wire
  pub second : Wire
  pub wire_is : slice_get g.wires c.wire ≡ Some wire
  pub first_is : slice_get g.wires c.first ≡ Some first
  pub second_is : slice_get g.wires c.second ≡ Some second
  pub refused : AreContested g image (answers.Contested wire first second)

-- An error names what the check of arcs that differ refuses, or where that passes, what the check of contested wires does; want
-- of memory says nothing.
abbrev pub Refuses : Graph → Bits → Config → LiveError → Type 0
Refuses g image config (ArcDiffers m) = IsRefusedMux g image config m
Refuses g image config (Contested c) = ArcsAgree g image config × IsRefusedContest g image c
Refuses g image config Memory = Unit {0}
