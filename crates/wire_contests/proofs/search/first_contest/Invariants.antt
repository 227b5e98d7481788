use Rattle.std.proofs.Common.{ℕ, ◌<◌}
use Rattle.links.specs.Links.{Routing}
use Rattle.design_checks.specs.RoutingChecks.{IsContested}
use Rattle.wire_feeds.specs.Rows.{AreFeeds}
use Rattle.wire_contests.specs.Contests.{HasDrivers}
use Rattle.wire_contests.proofs.search.first_contest.Given as goal

-- no wire so far is contested
abbrev pub invariant-loop-number : goal.invariant-loop-number
invariant-loop-number l = (r : Routing) → HasDrivers r l.drivers → AreFeeds r l.feeds → (k : ℕ) → k < l.number → IsContested r k → ⊥
