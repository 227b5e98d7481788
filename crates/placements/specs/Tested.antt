-- What is asked of the layout after a move. (Our own.)
use Rattle.std.specs.Prelude.{◌≡◌, ℕ, ◌++◌}
use Rattle.words.specs.Members.{In}
use Rattle.records.specs.Profile.{SliceKind}
use Rattle.links.specs.Links.{Feeds, IsClean}
use Rattle.fabric.specs.Agree.{ArcsAgree}
use Rattle.circuit.specs.Parts.{Source, sources}
use Rattle.circuit.specs.Pins.{Pin, pins}
use Rattle.circuit.specs.Circuits.{Connection, IsConnection}
use Rattle.circuit.specs.Designs.{shape_of}
use Rattle.cells.specs.Sites.{Site}
use Rattle.upset.specs.Configured.{circuit_of}
use Rattle.upset.specs.Safe.{IsSafe}
use Rattle.repair.specs.Layouts.{configured}
use Rattle.repair.specs.Turns.{routing}
use Rattle.attempts.specs.Jobs.{Job, State, read_of}
use Rattle.attempts.specs.Candidates.{Step, IsMoved}
use Rattle.placements.specs.MoveFaults.{MayMove}

-- The layout after a move is clean, its arcs agree, its cells are the same but for their wires, each feed of a pin is a
-- modelled output, it has each connection that isn't ripped and none that the circuit doesn't have, and it is safe.
pub record PassesTests (job : Job) (state : State) (step : Step) : Type 0 where
  pub clean : IsClean (routing (configured step.layout))
  pub agree : ArcsAgree step.layout.graph (configured step.layout).image step.layout.config
  pub alike : shape_of step.layout.cells ≡ shape_of state.layout.cells
  pub modelled : (p : Pin) (o : ℕ) → In (pins step.layout.cells) p → Feeds (routing (configured step.layout)) o p.wire → (s : Source) × (In (sources step.layout.cells) s × (s.out ≡ o))
  pub connected : (x : Connection) → IsConnection (read_of job) x → (In (state.order ++ step.ripped) x → ⊥) → IsConnection (circuit_of (configured step.layout)) x
  pub none_new : (x : Connection) → IsConnection (circuit_of (configured step.layout)) x → IsConnection (read_of job) x
  pub safe : IsSafe (configured step.layout)

-- A step whose move nothing speaks against, and whose layout passes the tests.
pub record IsTested (job : Job) (state : State) (step : Step) : Type 0 where
  pub old : Site SliceKind
  pub new : Site SliceKind
  pub moved : IsMoved job state step old new
  pub may_move : MayMove state.layout.graph state.layout.side (configured state.layout).image step.move old new
  pub passes : PassesTests job state step
