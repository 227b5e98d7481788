-- The path of a connection, or the cut that shows that it has none.
use Rattle.std.specs.Prelude.{ℕ, ◌+◌, List, count_by, nat_eq}
use Rattle.std.specs.List.{list_any}
use Rattle.words.specs.Members.{In}
use Rattle.links.specs.Links.{Drives, Feeds}
use Rattle.fabric.specs.Graph.{GraphArc}
use Rattle.fabric.specs.GraphOf.{arc_cmp}
use Rattle.paths.specs.Roads.{Roads}
use Rattle.paths.specs.Paths.{IsPath, IsThePath}
use Rattle.paths.specs.Cuts.{IsBlockedBy}
use Rattle.repair.specs.Turns.{Turn, routing}
use Rattle.repair.specs.Usable.{IsUsable}

-- How often a wire was in the way: the number of rims, one for each earlier attempt, that hold it. (After
-- PathFinder's history of congestion; what is counted is our own.)
abbrev pub history : List (List ℕ) → ℕ → ℕ
history rims w = count_by (λ rim. list_any (nat_eq w) rim) rims

-- the weight of a wire that a path enters
abbrev pub wire_weight : List (List ℕ) → ℕ → ℕ
wire_weight rims w = 1 + history rims w

-- what a path for a net goes by: usable arcs, in arc order, and the links that are there
abbrev pub roads_for : Turn → Roads GraphArc
roads_for t = record {
  source = λ a. a.source;
  sink = λ a. a.sink;
  cmp = arc_cmp;
  IsArc = In t.now.graph.arcs;
  MayTake = IsUsable t;
  Linked = Drives (routing t.now);
}

-- the tree of the net: the wires that it feeds
abbrev pub InTree : Turn → ℕ → Type 0
InTree t w = Feeds (routing t.now) t.net.out w

-- a path of the net to the wire of a pin
abbrev pub IsRoute : Turn → List GraphArc → ℕ → Type 0
IsRoute t path pin = IsPath (roads_for t) (InTree t) path pin

-- the path of the net to the wire of a pin, after attempts with these rims
abbrev pub IsTheRoute : List (List ℕ) → Turn → List GraphArc → ℕ → Type 0
IsTheRoute rims t path pin = IsThePath (roads_for t) (wire_weight rims) (InTree t) path pin

-- the least cut between the net's tree and the wire of a pin, with its rim
abbrev pub IsBlocked : Turn → List ℕ → List ℕ → ℕ → Type 0
IsBlocked t inside rim pin = IsBlockedBy (roads_for t) (InTree t) inside rim pin
