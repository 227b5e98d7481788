-- What is proved of searches by number.
use Rattle.std.specs.Prelude.{ℕ, List, ◌↔◌}
use Rattle.words.specs.Members.{In}
use Rattle.fabric.specs.Device.{Device}
use Rattle.fabric.specs.Graph.{GraphArc}
use Rattle.fabric.specs.GraphOf.{IsGraph}
use Rattle.paths.specs.Wiring.{Wiring, Rules, IsWiring, IsRules, IsTree, roads_of}
use Rattle.paths.specs.Paths.{IsThePath}
use Rattle.paths.specs.Cuts.{IsBlockedBy}
use Rattle.repair.specs.Turns.{Turn}
use Rattle.repair.specs.Routes.{IsTheRoute, IsBlocked}
use Rattle.search_laws.specs.Numbered.{AreNumbersOf, StandFor}

-- a turn over the graph of a device, with what stands for it by number
pub record IsNumbered (device : Device) (t : Turn) (rims : List (List ℕ)) (g : Wiring) (r : Rules) (tree : List ℕ) : Type 0 where
  pub graph : IsGraph device t.now.graph
  pub stand : StandFor t rims g r tree

-- Each turn has lists and rules that stand for it.
abbrev pub SomeNumbers : Type 0
SomeNumbers = (device : Device) (t : Turn) (rims : List (List ℕ)) → IsGraph device t.now.graph
    → (g : Wiring) × ((r : Rules) × ((tree : List ℕ) × IsNumbered device t rims g r tree))

-- What stands for a turn meets what a search asks.
abbrev pub NumbersMeetSearch : Type 0
NumbersMeetSearch = (device : Device) (t : Turn) (rims : List (List ℕ)) (g : Wiring) (r : Rules) (tree : List ℕ) → IsNumbered device t rims g r tree
    → IsWiring g × (IsRules g r × IsTree g r tree)

-- Numbers are the path that a search finds just where their arcs are the path of the connection.
abbrev pub PathIsRoute : Type 0
PathIsRoute = (device : Device) (t : Turn) (rims : List (List ℕ)) (g : Wiring) (r : Rules) (tree : List ℕ) → IsNumbered device t rims g r tree
    → (ns : List ℕ) (path : List GraphArc) (pin : ℕ) → AreNumbersOf t.now.graph ns path → IsThePath (roads_of g r) r.weight (In tree) ns pin ↔ IsTheRoute rims t path pin

-- A path that a search finds is of numbers of arcs, and the path of a connection has numbers.
abbrev pub PathHasArcs : Type 0
PathHasArcs = (device : Device) (t : Turn) (rims : List (List ℕ)) (g : Wiring) (r : Rules) (tree : List ℕ) → IsNumbered device t rims g r tree
    → (ns : List ℕ) (pin : ℕ) → IsThePath (roads_of g r) r.weight (In tree) ns pin → (path : List GraphArc) × AreNumbersOf t.now.graph ns path

abbrev pub RouteHasNumbers : Type 0
RouteHasNumbers = (rims : List (List ℕ)) (t : Turn) (path : List GraphArc) (pin : ℕ) → IsTheRoute rims t path pin → (ns : List ℕ) × AreNumbersOf t.now.graph ns path

-- The least cut that a search answers, with its rim, is that of the connection.
abbrev pub CutIsCut : Type 0
CutIsCut = (device : Device) (t : Turn) (rims : List (List ℕ)) (g : Wiring) (r : Rules) (tree : List ℕ) → IsNumbered device t rims g r tree
    → (inside rim : List ℕ) (pin : ℕ) → IsBlockedBy (roads_of g r) (In tree) inside rim pin ↔ IsBlocked t inside rim pin
