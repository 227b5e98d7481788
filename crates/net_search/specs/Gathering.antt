-- What holds while all that is reached from a tree is gathered, and what it leaves.
use Rattle.std.specs.Prelude.{◌≡◌, ℕ, ◌<◌, ◌≤◌, List, [], length, slice_index}
use Rattle.std.specs.List.{count_by}
use Rattle.words.specs.Members.{In}
use Rattle.paths.specs.Wiring.{roads_of}
use Rattle.paths.specs.Paths.{IsPath}
use Rattle.paths.specs.Cuts.{IsBlockedBy}
use Rattle.net_links.specs.Nets.{Network, NetRules, rules_of}
use Rattle.route_cut.specs.Checked.{IsEntered, IsKept}
use Rattle.net_search.specs.declared.reach.Mark.{Mark}
use Rattle.net_search.specs.declared.reach.Mark.TheVariants.{Inside}
use Rattle.net_search.specs.declared.reach.Reach.{Reach}
use Rattle.net_search.specs.Marks.{IsListed, Knows, far_marks, is_inside, mark_of}

-- a path leads to the wire
pub record IsReached (g : Network) (n : NetRules) (w : ℕ) : Type 0 where
  pub path : List ℕ
  pub leads : IsPath (roads_of g.wiring (rules_of g n)) (In n.tree) path w

-- Paths lead to the wires inside, and arcs from inside to those of the edge. Marks say of each wire where it stands.
pub record Gathered (g : Network) (n : NetRules) (marks : List Mark) (inside edge : List ℕ) : Type 0 where
  pub len : length marks ≡ g.wiring.wires
  pub wires : (w : ℕ) → In inside w → w < g.wiring.wires
  pub edge_wires : (w : ℕ) → In edge w → w < g.wiring.wires
  pub count : length inside ≡ count_by is_inside marks
  pub marked : (w : ℕ) → In inside w → mark_of marks w ≡ Inside
  pub each : (w : ℕ) → w < g.wiring.wires → Knows n inside edge w (mark_of marks w)
  pub entered : (w : ℕ) → In edge w → IsEntered g.wiring inside w
  pub paths : (w : ℕ) → In inside w → IsReached g n w

abbrev pub Gathers : Network → NetRules → Reach → Type 0
Gathers g n reach = Gathered g n reach.marks.items reach.inside.items reach.edge.items

-- wires were added at the end, or none
pub record Grows (old new : List ℕ) : Type 0 where
  pub longer : length old ≤ length new
  pub same : (k : ℕ) → k < length old → slice_index new k ≡ slice_index old k

abbrev pub AllIn : List ℕ → List ℕ → Type 0
AllIn wires inside = (w : ℕ) → In wires w → In inside w

-- nothing leads out of the wires inside but to the edge, and the tree's roots are among them
pub record Ends (g : Network) (n : NetRules) (reach : Reach) : Type 0 where
  pub gathers : Gathers g n reach
  pub roots : AllIn n.roots reach.inside.items
  pub kept : (w : ℕ) → In reach.inside.items w
      → IsKept g.wiring (rules_of g n) reach.inside.items reach.edge.items w

-- the least cut and its rim
abbrev pub Blocks : Network → NetRules → ℕ → List ℕ → List ℕ → Type 0
Blocks g n pin inside rim = IsBlockedBy (roads_of g.wiring (rules_of g n)) (In n.tree) inside rim pin

-- no wire is marked or listed
pub record IsAtRest (wires : ℕ) (reach : Reach) : Type 0 where
  pub marks : reach.marks.items ≡ far_marks wires
  pub inside : reach.inside.items ≡ []
  pub edge : reach.edge.items ≡ []

-- each wire with a mark is listed
pub record Keeps (wires : ℕ) (reach : Reach) : Type 0 where
  pub len : length reach.marks.items ≡ wires
  pub inside : (w : ℕ) → In reach.inside.items w → w < wires
  pub edge : (w : ℕ) → In reach.edge.items w → w < wires
  pub known : (w : ℕ) → w < wires → IsListed reach.inside.items reach.edge.items reach.marks.items w
