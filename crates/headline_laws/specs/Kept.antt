-- What a layout and a state keep of the design that was read. (Our own.)
use Rattle.std.specs.Prelude.{◌≡◌, Ok}
use Rattle.words.specs.Members.{In}
use Rattle.fabric.specs.Agree.{ArcsAgree}
use Rattle.circuit.specs.Circuits.{Connection, IsConnection}
use Rattle.circuit.specs.Designs.{shape_of, SameSide}
use Rattle.circuit.specs.WellFormed.{IsWellFormed}
use Rattle.cells.specs.CellsOf.{cells_of}
use Rattle.upset.specs.Configured.{circuit_of}
use Rattle.upset.specs.Safe.{IsSafe}
use Rattle.repair.specs.Layouts.{Layout, configured}
use Rattle.repair_laws.specs.Ready.{IsReady}
use Rattle.attempts.specs.Jobs.{Job, State, read_of}
use Rattle.formed_laws.specs.SideRead.{IsApart}
use Rattle.check_laws.specs.Accepted.{FeedsAreModelled}

-- A layout over the design's graph with the same side file but for sites of slices, and the same cells but for wires, which are
-- those of its image. It is well formed, ready (so clean), safe and agreeing, each feed of a pin is a modelled output,
-- and no connection is new.
pub record KeepsDesign (job : Job) (y : Layout) : Type 0 where
  pub graph : y.graph ≡ job.design.graph
  pub side : SameSide job.design.side y.side
  pub apart : IsApart y.side
  pub parts : shape_of job.design.cells ≡ shape_of y.cells
  pub cells : cells_of y.graph job.device.profile (configured y).image y.side ≡ Ok y.cells
  pub formed : IsWellFormed (circuit_of (configured y))
  pub ready : IsReady job.device (configured y)
  pub safe : IsSafe (configured y)
  pub agree : ArcsAgree y.graph (configured y).image y.config
  pub modelled : FeedsAreModelled (circuit_of (configured y))
  pub none_new : (x : Connection) → IsConnection (circuit_of (configured y)) x → IsConnection (read_of job) x

-- the layout has each connection of the circuit that was read
abbrev pub HasEachConnection : Job → Layout → Type 0
HasEachConnection job y = (x : Connection) → IsConnection (read_of job) x → IsConnection (circuit_of (configured y)) x

-- the layout of a state keeps the design, and has each connection that isn't in the order
pub record StateKeeps (job : Job) (state : State) : Type 0 where
  pub design : KeepsDesign job state.layout
  pub others : (x : Connection) → IsConnection (read_of job) x → (In state.order x → ⊥) → IsConnection (circuit_of (configured state.layout)) x
