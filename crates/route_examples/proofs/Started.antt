-- Where repair of the corridor starts.
use Rattle.std.proofs.Common.{◌≡◌, ℕ, true, refl}
use Rattle.repair.specs.Layouts.{configured}
use Rattle.attempts.specs.Starts.{IsFirstState}
use Rattle.mini_b.specs.MiniB.{mini_b}
use Rattle.mini_b.specs.Corridor.{corridor}
use Rattle.mini_b.specs.CorridorCells.{corridor_cells}
use Rattle.route_laws.specs.PlainStarts.{rest_of, ripped_connections, is_order}
use Rattle.route_laws.proofs.Rules.{IsToldBy}
use Rattle.route_laws.proofs.Starts.{start_law}
use Rattle.route_examples.specs.Corridors.{without_arcs, fifteen}
use Rattle.route_examples.specs.Starting.{corridor_job, corridor_start}
use Rattle.route_examples.proofs.Conditions.{g, told_by}

told : (rounds : ℕ) → IsToldBy mini_b (configured (corridor_job g rounds).design)
told rounds = told_by corridor refl

rest : (rounds : ℕ) → rest_of (corridor_job g rounds).rip mini_b corridor (configured (corridor_job g rounds).design) ≡ without_arcs corridor
rest rounds = refl

ordered : (rounds : ℕ) → is_order (corridor_cells g) (ripped_connections (corridor_job g rounds)) fifteen ≡ true
ordered rounds = refl

pub started : (rounds : ℕ) → IsFirstState (corridor_job g rounds) (corridor_start g)
started rounds = start_law (corridor_job g rounds) (told rounds) (corridor_start g) refl (rest rounds) refl refl (ordered rounds) refl refl refl
