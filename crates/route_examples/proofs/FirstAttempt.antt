-- The first attempt on the corridor is blocked at the eighth connection.
use Rattle.std.proofs.Common.{◌≡◌, ℕ, true, List, [], ◌∷◌, Some, codes, refl}
use Rattle.std.specs.Prelude.{zip}
use Rattle.records.specs.Side.{D0}
use Rattle.fabric_laws.proofs.Graphs.{has_graph}
use Rattle.circuit.specs.Parts.{Source}
use Rattle.circuit.specs.Circuits.{Connection}
use Rattle.repair.specs.Layouts.{configured, turn_over}
use Rattle.repair.specs.Routes.{IsBlocked}
use Rattle.repair.specs.Turns.{Turn}
use Rattle.attempts.specs.Turns.{Blocked, ComesOut}
use Rattle.mini.specs.ToggleCells.{wire_at}
use Rattle.mini_b.specs.MiniB.{mini_b}
use Rattle.route_laws.specs.PlainCuts.{is_blocked}
use Rattle.route_laws.proofs.Rules.{IsToldBy}
use Rattle.route_laws.proofs.Cuts.{blocked_law}
use Rattle.route_examples.specs.Corridors.{read, bare, table_net, after, inside, rim, cut, first_seven, eighth, last_seven, fifteen}
use Rattle.route_examples.proofs.Conditions.{g, told_by}
use Rattle.route_examples.proofs.Attempted.{routed, routed_then, stops}

-- the first seven connections, each with the weight of its path
abbrev seven : List (Connection × ℕ)
seven = zip first_seven (1 ∷ 1 ∷ 1 ∷ 1 ∷ 1 ∷ 1 ∷ 4 ∷ [])

seven_routed : routed (read g) [] (bare g) seven ≡ Some (after g 7)
seven_routed = refl

abbrev net : Source
net = table_net g (codes "v0") D0 2

abbrev pin : ℕ
pin = wire_at g 0 4 (codes "PO")

abbrev turn : Turn
turn = turn_over (read g) (after g 7) net

told : IsToldBy mini_b (configured (after g 7))
told = told_by (after g 7).config refl

passes : is_blocked turn (inside g) (rim g) pin ≡ true
passes = refl

pub blocked : IsBlocked turn (inside g) (rim g) pin
blocked = blocked_law mini_b turn told (inside g) (rim g) pin passes

stopped : ComesOut (read g) [] (after g 7) (eighth ∷ last_seven) (Blocked [] eighth last_seven (cut g))
stopped = stops (read g) [] (after g 7) eighth last_seven net pin refl refl (cut g) blocked

pub first_attempt : ComesOut (read g) [] (bare g) fifteen (Blocked first_seven eighth last_seven (cut g))
first_attempt =
    routed_then mini_b (read g) [] seven (bare g) (after g 7) (has_graph mini_b) seven_routed (eighth ∷ last_seven) (Blocked [] eighth last_seven (cut g)) stopped
