use Rattle.pin_feeds.specs.LeastUnnamed.{LeastSoFar}
use Rattle.pin_feeds.specs.Outputs.{unnamed_at}
use Rattle.pin_feeds.proofs.unnamed.least_unnamed.Given as goal

-- the least of the pins so far
abbrev pub invariant-loop-place : goal.invariant-loop-place
invariant-loop-place l = LeastSoFar (unnamed_at l.feeds l.parts) l.pins l.place l.least
