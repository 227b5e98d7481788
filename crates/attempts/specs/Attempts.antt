-- The attempts of a router, and how they end. (After PathFinder's repeated routing; orders, moves and ends are our
-- own.)
use Rattle.std.specs.Prelude.{◌≡◌, ◌≢◌, ℕ, suc, ◌<◌, List, [], ◌∷◌, ◌++◌, length}
use Rattle.circuit.specs.Parts.{Pad}
use Rattle.circuit.specs.Circuits.{Connection}
use Rattle.upset.specs.Safe.{IsSafe}
use Rattle.repair.specs.Layouts.{Layout, configured}
use Rattle.attempts.specs.Wires.{net_wire, pin_wire}
use Rattle.attempts.specs.Turns.{Cut, Outcome, Complete, Blocked, ComesOut}
use Rattle.attempts.specs.Jobs.{Job, State, read_of}
use Rattle.attempts.specs.Moves.{Move}
use Rattle.attempts.specs.Candidates.{Step, IsFirst, HasNone}
use Rattle.attempts.specs.Starts.{IsFirstState}

-- what the log tells, in order: an attempt that was blocked, with the wires of net and pin; a move; an attempt that is
-- complete
pub data Event : Type 0 where
  AttemptBlocked : ℕ → ℕ → Event
  Moved : Move → Event
  AttemptComplete : Event

-- why no attempt follows: there were enough, the blocked pin is a pad's, or the slice has no site left
pub data End : Type 0 where
  EndRounds : End
  EndPad : End
  EndSite : End

-- how the attempts end: with a layout and the number of ripped connections, or without a route, with the wires of the
-- last blocked net and pin and their cut
pub data Ending : Type 0 where
  Routed : Layout → ℕ → Ending
  NoRoute : End → ℕ → ℕ → Cut → Ending

-- the attempt of a state comes out so
abbrev pub Attempt : Job → State → Outcome → Type 0
Attempt job state out = ComesOut (read_of job) state.rims state.layout state.order out

abbrev pub blocked_event : State → Connection → Event
blocked_event state x = AttemptBlocked (net_wire state.layout.cells x) (pin_wire state.layout.cells x)

abbrev pub no_route : State → End → Connection → Cut → Ending
no_route state end x cut = NoRoute end (net_wire state.layout.cells x) (pin_wire state.layout.cells x) cut

-- after a block that isn't at the first place: the blocked connection comes first, the others keep their order
abbrev pub with_first : State → Connection → List Connection → Cut → State
with_first state x others cut = record { layout = state.layout; order = x ∷ others; rims = cut.rim ∷ state.rims; moved = state.moved; sides = state.sides }

-- after a move: the order stays, with the connections that became ripped behind it
abbrev pub after_step : State → Step → Cut → State
after_step state step cut = record {
  layout = step.layout;
  order = state.order ++ step.ripped;
  rims = cut.rim ∷ state.rims;
  moved = step.move.slice ∷ state.moved;
  sides = step.layout.side ∷ state.sides;
}

-- The attempts from a state on, with their log and their end. The end by rounds is looked at first.
pub data Runs (job : Job) : State → List Event → Ending → Type 0 where
  completes : {state : State} (y : Layout) → Attempt job state (Complete y) → Runs job state (AttemptComplete ∷ []) (Routed y (length state.order))
  enough : {state : State} (earlier : List Connection) (x : Connection) (later : List Connection) (cut : Cut) → Attempt job state (Blocked earlier x later cut)
      → suc (length state.rims) ≡ job.rounds → Runs job state (blocked_event state x ∷ []) (no_route state EndRounds x cut)
  comes_first : {state : State} {log : List Event} {e : Ending} (c : Connection) (earlier : List Connection) (x : Connection) (later : List Connection) (cut : Cut)
      → Attempt job state (Blocked (c ∷ earlier) x later cut) → suc (length state.rims) < job.rounds
      → Runs job (with_first state x ((c ∷ earlier) ++ later) cut) log e → Runs job state (blocked_event state x ∷ log) e
  at_pad : {state : State} (x : Connection) (later : List Connection) (cut : Cut) → Attempt job state (Blocked [] x later cut) → suc (length state.rims) < job.rounds
      → x.pin.part.part ≡ Pad → Runs job state (blocked_event state x ∷ []) (no_route state EndPad x cut)
  no_site : {state : State} (x : Connection) (later : List Connection) (cut : Cut) → Attempt job state (Blocked [] x later cut) → suc (length state.rims) < job.rounds
      → x.pin.part.part ≢ Pad → HasNone job state x.pin.part.cell → Runs job state (blocked_event state x ∷ []) (no_route state EndSite x cut)
  moves : {state : State} {log : List Event} {e : Ending} (x : Connection) (later : List Connection) (cut : Cut) (step : Step) → Attempt job state (Blocked [] x later cut)
      → suc (length state.rims) < job.rounds → x.pin.part.part ≢ Pad → IsFirst job state x.pin.part.cell step
      → Runs job (after_step state step cut) log e → Runs job state (blocked_event state x ∷ (Moved step.move ∷ log)) e

-- what a router answers: bad bits that no route can mend, or the log of its attempts and their end
pub data Answer : Type 0 where
  Standing : Answer
  Ended : List Event → Ending → Answer

-- The answer to a job: bits stand that are bad before any attempt, or the attempts run to their end.
pub data IsAnswer (job : Job) : Answer → Type 0 where
  standing : (state : State) → IsFirstState job state → (IsSafe (configured state.layout) → ⊥) → IsAnswer job Standing
  ended : {log : List Event} {e : Ending} (state : State) → IsFirstState job state → IsSafe (configured state.layout) → Runs job state log e → IsAnswer job (Ended log e)

-- the attempts of a job end with all connections routed, and this layout is what they leave
abbrev pub EndsRouted : Job → Layout → Type 0
EndsRouted job y = (log : List Event) × ((connections : ℕ) × IsAnswer job (Ended log (Routed y connections)))
