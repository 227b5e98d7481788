-- What the repair of the corridor answers.
use Rattle.std.proofs.Common.{[], ◌∷◌, drop, codes, refl, arith}
use Rattle.upset.specs.Safe.{IsSafe}
use Rattle.upset_laws.proofs.PlainDomains.{safe_law}
use Rattle.repair.specs.Layouts.{configured}
use Rattle.attempts.specs.Attempts.{AttemptComplete, EndRounds, Routed, blocked_event, no_route, enough, comes_first, completes, IsAnswer, Ended, ended}
use Rattle.mini_b.specs.MiniB.{mini_b}
use Rattle.mini_b.specs.Corridor.{corridor}
use Rattle.route_laws.proofs.Rules.{IsToldBy}
use Rattle.route_examples.specs.Corridors.{with_corridor, bare, cut, first_seven, eighth, last_seven, table_of, pad_of, to_pin}
use Rattle.route_examples.specs.Starting.{corridor_job, corridor_start}
use Rattle.route_examples.proofs.Conditions.{g, told_by}
use Rattle.route_examples.proofs.FirstAttempt.{first_attempt}
use Rattle.route_examples.proofs.SecondAttempt.{second_attempt}
use Rattle.route_examples.proofs.Started.{started}

-- the corridor is safe, and so is its text without arc lines
pub told : IsToldBy mini_b (configured (with_corridor g corridor))
told = told_by corridor refl

pub corridor_safe : IsSafe (configured (with_corridor g corridor))
corridor_safe = (safe_law mini_b (configured (with_corridor g corridor)) told.graph told.clean told.outputs).0 refl

told_bare : IsToldBy mini_b (configured (bare g))
told_bare = told_by (bare g).config refl

bare_safe : IsSafe (configured (bare g))
bare_safe = (safe_law mini_b (configured (bare g)) told_bare.graph told_bare.clean told_bare.outputs).0 refl

pub one_round : IsAnswer (corridor_job g 1) (Ended (blocked_event (corridor_start g) eighth ∷ []) (no_route (corridor_start g) EndRounds eighth (cut g)))
one_round = ended (corridor_start g) (started 1) bare_safe (enough first_seven eighth last_seven (cut g) first_attempt refl)

pub two_attempts : IsAnswer (corridor_job g 32) (Ended (blocked_event (corridor_start g) eighth ∷ AttemptComplete ∷ []) (Routed (with_corridor g corridor) 15))
two_attempts = ended (corridor_start g) (started 32) bare_safe
    (comes_first (to_pin (pad_of (codes "i0")) (table_of (codes "u0"))) (drop 1 first_seven) eighth last_seven (cut g) first_attempt (omega arith) (completes (with_corridor g corridor) second_attempt))
