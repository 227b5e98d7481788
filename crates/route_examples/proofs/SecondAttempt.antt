-- The second attempt on the corridor is complete, and gives the corridor back.
use Rattle.std.proofs.Common.{◌≡◌, ℕ, List, [], ◌∷◌, ◌++◌, Some, refl}
use Rattle.std.specs.Prelude.{zip}
use Rattle.fabric_laws.proofs.Graphs.{has_graph}
use Rattle.circuit.specs.Circuits.{Connection}
use Rattle.attempts.specs.Turns.{Complete, ComesOut}
use Rattle.mini_b.specs.MiniB.{mini_b}
use Rattle.mini_b.specs.Corridor.{corridor}
use Rattle.route_examples.specs.Corridors.{with_corridor, read, bare, rim, first_seven, eighth, last_seven}
use Rattle.route_examples.proofs.Conditions.{g}
use Rattle.route_examples.proofs.Attempted.{routed, routed_then}

-- the eighth connection, those before it and those behind it, each with the weight of its path
abbrev all : List (Connection × ℕ)
all = zip (eighth ∷ (first_seven ++ last_seven)) (5 ∷ 2 ∷ 2 ∷ 1 ∷ 1 ∷ 1 ∷ 1 ∷ 5 ∷ 1 ∷ 5 ∷ 3 ∷ 1 ∷ 5 ∷ 3 ∷ 1 ∷ [])

all_routed : routed (read g) (rim g ∷ []) (bare g) all ≡ Some (with_corridor g corridor)
all_routed = refl

pub second_attempt : ComesOut (read g) (rim g ∷ []) (bare g) (eighth ∷ (first_seven ++ last_seven)) (Complete (with_corridor g corridor))
second_attempt =
    routed_then mini_b (read g) (rim g ∷ []) all (bare g) (with_corridor g corridor) (has_graph mini_b) all_routed [] (Complete (with_corridor g corridor)) refl
