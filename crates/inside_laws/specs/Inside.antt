-- The layouts that stand inside an attempt. (Our own.)
use Rattle.std.specs.Prelude.{◌≡◌, ◌≢◌, ℕ, suc, ◌<◌, List, [], ◌∷◌, ◌++◌, length, Some}
use Rattle.fabric.specs.Graph.{GraphArc}
use Rattle.circuit.specs.Parts.{Source, Pad}
use Rattle.circuit.specs.Circuits.{Circuit, Connection}
use Rattle.upset.specs.Safe.{IsSafe}
use Rattle.repair.specs.Layouts.{Layout, configured, with_path, turn_over}
use Rattle.repair.specs.Routes.{IsTheRoute}
use Rattle.attempts.specs.Jobs.{Job, State, read_of}
use Rattle.attempts.specs.Wires.{source_named, pin_wire}
use Rattle.attempts.specs.Turns.{Cut, Blocked}
use Rattle.attempts.specs.Candidates.{Step, IsFirst}
use Rattle.attempts.specs.Starts.{IsFirstState}
use Rattle.attempts.specs.Attempts.{Attempt, with_first, after_step}

-- From a layout and an order an attempt comes to a layout, with these connections still to be routed: none is routed yet,
-- or the first has its path and the others go on from there.
pub data ComesTo (read : Circuit) (rims : List (List ℕ)) : Layout → List Connection → Layout → List Connection → Type 0 where
  begins : {y : Layout} {order : List Connection} → ComesTo read rims y order y order
  routes : {y z : Layout} {x : Connection} {rest left : List Connection} (net : Source) (path : List GraphArc) → source_named y.cells x.source ≡ Some net
      → IsTheRoute rims (turn_over read y net) path (pin_wire y.cells x) → ComesTo read rims (with_path y path) rest z left → ComesTo read rims y (x ∷ rest) z left

-- the attempt of a state comes to a layout, with these connections still to be routed
abbrev pub IsInside : Job → State → Layout → List Connection → Type 0
IsInside job state z left = ComesTo (read_of job) state.rims state.layout state.order z left

-- A state at which the attempts of a job stand at some time: the safe start, the one after a block that isn't at the first
-- place, and the one after a move.
pub data IsReached (job : Job) : State → Type 0 where
  at_start : {state : State} → IsFirstState job state → IsSafe (configured state.layout) → IsReached job state
  after_block : {state : State} (c : Connection) (earlier : List Connection) (x : Connection) (later : List Connection) (cut : Cut) → IsReached job state
      → Attempt job state (Blocked (c ∷ earlier) x later cut) → suc (length state.rims) < job.rounds → IsReached job (with_first state x ((c ∷ earlier) ++ later) cut)
  after_move : {state : State} (x : Connection) (later : List Connection) (cut : Cut) (step : Step) → IsReached job state
      → Attempt job state (Blocked [] x later cut) → suc (length state.rims) < job.rounds → x.pin.part.part ≢ Pad → IsFirst job state x.pin.part.cell step
      → IsReached job (after_step state step cut)
