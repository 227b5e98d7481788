use Rattle.std.proofs.Common.{◌^◌, ◌-◌, ◌≤◌, length}
use Rattle.live_routing.specs.Live.{live_routing}
use Rattle.upset_effect.specs.Found.{Finds}
use Rattle.upset_effect.proofs.behind.find_all.Given as goal

abbrev pub invariant-walk : goal.invariant-walk
invariant-walk g l = record {
  finds : Finds (live_routing l.live) l.initial.found.keys l.found.keys l.at;
  at : l.at ≤ length l.found.keys;
}

abbrev pub decreases-walk : goal.decreases-walk
decreases-walk g l = 2 ^ 64 - l.at
