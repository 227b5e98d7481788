-- That there is an answer: what is proved of starts, attempts, candidates, runs and bad bits.
use Rattle.std.specs.Prelude.{◌≡◌, ℕ, ◌<◌, List, [], ◌⊎◌, ◌↔◌}
use Rattle.fabric.specs.Device.{Device}
use Rattle.fabric.specs.GraphOf.{IsGraph}
use Rattle.circuit.specs.WellFormed.{OutputsApart}
use Rattle.circuit.specs.Circuits.{Circuit, Connection}
use Rattle.upset.specs.Configured.{Configured}
use Rattle.upset.specs.Safe.{IsSafe}
use Rattle.repair.specs.Layouts.{Layout}
use Rattle.attempts.specs.Jobs.{Job, State, read_of}
use Rattle.attempts.specs.Starts.{IsFirstState}
use Rattle.attempts.specs.Turns.{Outcome, ComesOut}
use Rattle.attempts.specs.Candidates.{Step, IsFirst, HasNone}
use Rattle.attempts.specs.Attempts.{Event, Ending, Runs, Answer, IsAnswer}
use Rattle.reports.specs.Reports.{BadPlace}
use Rattle.design_answers.specs.BadBits.{AreBadPlaces}
use Rattle.answer_laws.specs.Named.{AllNamed}

-- A job whose design has no two parts with one output has a start.
abbrev pub SomeStart : Type 0
SomeStart = (job : Job) → OutputsApart (read_of job) → (state : State) × IsFirstState job state

-- An attempt comes out, over any layout and after attempts with any rims, where each connection of its order begins at a
-- named part.
abbrev pub SomeOutcome : Type 0
SomeOutcome = (read : Circuit) (rims : List (List ℕ)) (y : Layout) (order : List Connection) → AllNamed y.cells order → (out : Outcome) × ComesOut read rims y order out

-- A slice has a first candidate that it hasn't held, or none.
abbrev pub FirstOrNone : Type 0
FirstOrNone = (job : Job) (state : State) (slice : List ℕ) → ((step : Step) × IsFirst job state slice step) ⊎ HasNone job state slice

-- From the start of a job with at least one attempt there are a log and an end.
abbrev pub SomeRun : Type 0
SomeRun = (job : Job) → 0 < job.rounds → (state : State) → IsFirstState job state → (log : List Event) × ((e : Ending) × Runs job state log e)

-- A job with at least one attempt, whose design has no two parts with one output, has an answer.
abbrev pub SomeAnswer : Type 0
SomeAnswer = (job : Job) → OutputsApart (read_of job) → 0 < job.rounds → (a : Answer) × IsAnswer job a

-- The bad bits of a configured circuit over the graph of a device are a list, with two domains and a place of each.
abbrev pub SomeBadPlaces : Type 0
SomeBadPlaces = (device : Device) (k : Configured) → IsGraph device k.graph → (list : List BadPlace) × AreBadPlaces k list

-- The list is empty just where the image is safe.
abbrev pub EmptyWhereSafe : Type 0
EmptyWhereSafe = (k : Configured) (list : List BadPlace) → AreBadPlaces k list → (list ≡ []) ↔ IsSafe k
