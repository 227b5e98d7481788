-- The crossed toggle is routed again, connection by connection, and is then the toggle.
use Rattle.std.proofs.Common.{◌≡◌, ℕ, List, [], ◌∷◌, Some, refl}
use Rattle.std.specs.Prelude.{zip}
use Rattle.fabric_laws.proofs.Graphs.{has_graph}
use Rattle.circuit.specs.Circuits.{Connection}
use Rattle.upset.specs.Safe.{IsSafe}
use Rattle.upset_laws.proofs.PlainDomains.{safe_law}
use Rattle.repair.specs.Layouts.{configured}
use Rattle.attempts.specs.Attempts.{AttemptComplete, Routed, completes, IsAnswer, Ended, ended}
use Rattle.attempts.specs.Turns.{Complete, ComesOut}
use Rattle.mini.specs.MiniA.{mini_a}
use Rattle.mini.specs.Toggle.{toggle}
use Rattle.route_laws.proofs.Rules.{IsToldBy}
use Rattle.route_examples.specs.Crossed.{with_cells, crossed_read, rest_of_crossed, eight, crossed_job, crossed_start}
use Rattle.route_examples.proofs.Attempted.{routed, routed_then}
use Rattle.route_examples.proofs.Uncrossed.{g, told_by, started}

-- the eight connections, each with the weight of its path
abbrev all : List (Connection × ℕ)
all = zip eight (1 ∷ 2 ∷ 2 ∷ 2 ∷ 1 ∷ 4 ∷ 1 ∷ 1 ∷ [])

all_routed : routed (crossed_read g) [] (with_cells g rest_of_crossed) all ≡ Some (with_cells g toggle)
all_routed = refl

completed : ComesOut (crossed_read g) [] (with_cells g rest_of_crossed) eight (Complete (with_cells g toggle))
completed =
    routed_then mini_a (crossed_read g) [] all (with_cells g rest_of_crossed) (with_cells g toggle) (has_graph mini_a) all_routed [] (Complete (with_cells g toggle)) refl

-- the text that is routed first is safe
told_rest : IsToldBy mini_a (configured (with_cells g rest_of_crossed))
told_rest = told_by rest_of_crossed refl

safe : IsSafe (configured (with_cells g rest_of_crossed))
safe = (safe_law mini_a (configured (with_cells g rest_of_crossed)) told_rest.graph told_rest.clean told_rest.outputs).0 refl

pub answered : IsAnswer (crossed_job g) (Ended (AttemptComplete ∷ []) (Routed (with_cells g toggle) 8))
answered = ended (crossed_start g) started safe (completes (with_cells g toggle) completed)
