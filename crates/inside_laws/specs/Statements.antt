-- What is proved of the layouts inside an attempt.
use Rattle.std.specs.Prelude.{◌≡◌, ◌<◌, List, [], ◌∷◌, Some}
use Rattle.words.specs.Members.{In}
use Rattle.circuit.specs.Parts.{Source}
use Rattle.circuit.specs.Circuits.{Connection, IsConnection}
use Rattle.upset.specs.Configured.{circuit_of}
use Rattle.repair.specs.Layouts.{Layout, configured, turn_over}
use Rattle.repair.specs.Routes.{IsBlocked}
use Rattle.attempts.specs.Jobs.{Job, State, read_of}
use Rattle.attempts.specs.Wires.{source_named, pin_wire}
use Rattle.attempts.specs.Turns.{Cut, Complete, Blocked}
use Rattle.attempts.specs.Attempts.{Attempt, Answer, IsAnswer}
use Rattle.headline_laws.specs.Sound.{IsSoundJob}
use Rattle.headline_laws.specs.Kept.{KeepsDesign, StateKeeps}
use Rattle.inside_laws.specs.Inside.{IsInside, IsReached}

-- the layout has each connection of the circuit that was read but for some
abbrev pub HasOthers : Job → Layout → List Connection → Type 0
HasOthers job z left = (x : Connection) → IsConnection (read_of job) x → (In left x → ⊥) → IsConnection (circuit_of (configured z)) x

-- Each layout inside an attempt keeps the design, and has each connection but for those still to be routed.
abbrev pub EachInsideKeeps : Type 0
EachInsideKeeps = (job : Job) → IsSoundJob job → (state : State) → StateKeeps job state → (z : Layout) (left : List Connection) → IsInside job state z left
    → KeepsDesign job z × HasOthers job z left

-- the layout at which an attempt is blocked at a connection by a cut
pub record IsStoppedAt (job : Job) (state : State) (x : Connection) (later : List Connection) (cut : Cut) (z : Layout) : Type 0 where
  pub inside : IsInside job state z (x ∷ later)
  pub net : Source
  pub named : source_named z.cells x.source ≡ Some net
  pub blocked : IsBlocked (turn_over (read_of job) z net) cut.inside cut.rim (pin_wire z.cells x)

-- A blocked attempt stops at a layout inside it, and a complete one comes to its last.
abbrev pub BlockedStopsInside : Type 0
BlockedStopsInside = (job : Job) (state : State) (earlier : List Connection) (x : Connection) (later : List Connection) (cut : Cut)
    → Attempt job state (Blocked earlier x later cut) → (z : Layout) × IsStoppedAt job state x later cut z

abbrev pub CompleteEndsInside : Type 0
CompleteEndsInside = (job : Job) (state : State) (z : Layout) → Attempt job state (Complete z) → IsInside job state z []

-- A sound job with at least one attempt has an answer.
abbrev pub SoundJobIsAnswered : Type 0
SoundJobIsAnswered = (job : Job) → IsSoundJob job → 0 < job.rounds → (a : Answer) × IsAnswer job a

-- Each state at which the attempts of a sound job stand keeps the design; so does each layout inside each of its attempts.
abbrev pub EachStateKeeps : Type 0
EachStateKeeps = (job : Job) → IsSoundJob job → (state : State) → IsReached job state → StateKeeps job state

abbrev pub EachLayoutKeeps : Type 0
EachLayoutKeeps = (job : Job) → IsSoundJob job → (state : State) → IsReached job state → (z : Layout) (left : List Connection) → IsInside job state z left
    → KeepsDesign job z × HasOthers job z left
