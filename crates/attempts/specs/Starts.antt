-- Where a router starts. (Our own.)
use Rattle.std.specs.Prelude.{◌≡◌, List, [], ◌∷◌, ◌↔◌}
use Rattle.words.specs.Members.{In}
use Rattle.fabric.specs.InOrder.{IsRising}
use Rattle.circuit.specs.Circuits.{Connection, IsConnection}
use Rattle.repair.specs.Layouts.{configured}
use Rattle.repair.specs.Nets.{IsRipped}
use Rattle.repair.specs.Ripping.{IsRest}
use Rattle.attempts.specs.Jobs.{Job, State, read_of, IsRippedPart}
use Rattle.attempts.specs.Wires.{connection_cmp}

-- the connections of a list are those that have a property, in the order of their wires in a placement
pub record AreOrdered (state : State) (Has : Connection → Type 0) (list : List Connection) : Type 0 where
  pub rising : IsRising (connection_cmp state.layout.cells) list
  pub members : (x : Connection) → In list x ↔ Has x

-- a connection of the circuit that was read whose net is ripped at the start
abbrev pub IsRippedAtStart : Job → Connection → Type 0
IsRippedAtStart job x = IsConnection (read_of job) x × IsRippedPart job [] x.source

-- The given placement with the text without the routes of ripped nets, and the ripped connections in order.
pub record IsFirstState (job : Job) (state : State) : Type 0 where
  pub graph : state.layout.graph ≡ job.design.graph
  pub text : IsRest (IsRipped job.rip job.device (configured job.design)) job.design.config (configured job.design) state.layout.config
  pub cells : state.layout.cells ≡ job.design.cells
  pub side : state.layout.side ≡ job.design.side
  pub order : AreOrdered state (IsRippedAtStart job) state.order
  pub no_rims : state.rims ≡ []
  pub none_moved : state.moved ≡ []
  pub sides : state.sides ≡ job.design.side ∷ []
