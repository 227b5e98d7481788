-- The path of a connection, computed as plainly as can be: of all paths of so many arcs at most, those behind which no
-- other stands.
use Rattle.std.specs.Prelude.{ℕ, zero, suc, Bool, List, [], ◌∷◌, ◌++◌, map, filter, flat_map, cond, nat_lt, not, ◌&&◌, ◌||◌, ◌==◌}
use Rattle.std.specs.List.{list_all}
use Rattle.std.specs.Ordering.{is_gt}
use Rattle.std.specs.Cmp.Lexicographic.{slice_cmp}
use Rattle.links.specs.Links.{Link}
use Rattle.links.specs.Below.{below, has}
use Rattle.fabric.specs.Graph.{GraphArc}
use Rattle.fabric.specs.GraphOf.{arc_cmp}
use Rattle.fabric.specs.Links.{links_of}
use Rattle.paths.specs.Paths.{weight_of}
use Rattle.repair.specs.Turns.{Turn}
use Rattle.repair.specs.Routes.{wire_weight, roads_for}
use Rattle.route_laws.specs.PlainUsable.{usable_among}
use Rattle.route_laws.specs.PlainCuts.{tree_of, reached, leaving}

-- all lists of so many arcs at most that lead on from some wires to a pin
abbrev pub paths_from : List Link → List GraphArc → ℕ → ℕ → List ℕ → List (List GraphArc)
paths_from links arcs pin zero ws = cond (has ws pin) ([] ∷ []) []
paths_from links arcs pin (suc n) ws =
    cond (has ws pin) ([] ∷ []) [] ++ flat_map (λ a. map (λ rest. a ∷ rest) (paths_from links arcs pin n (below links a.sink))) (filter (λ a. has ws a.source) arcs)

-- the usable arcs to which so many arcs of any kind lead at most
abbrev pub usable_near : Turn → ℕ → List GraphArc
usable_near t n = usable_among t (leaving t (reached (links_of t.now.graph t.now.image) t.now.graph.arcs (tree_of t) n))

-- all paths of so many arcs at most
abbrev pub paths_within : Turn → ℕ → ℕ → List (List GraphArc)
paths_within t n pin = paths_from (links_of t.now.graph t.now.image) (usable_near t n) pin n (tree_of t)

abbrev pub weight_by : List (List ℕ) → Turn → List GraphArc → ℕ
weight_by rims t path = weight_of (roads_for t) (wire_weight rims) path

-- a path is lighter than another, or as light and not behind it
abbrev pub comes_first : List (List ℕ) → Turn → List GraphArc → List GraphArc → Bool
comes_first rims t path other =
    nat_lt (weight_by rims t path) (weight_by rims t other) || (weight_by rims t path == weight_by rims t other) && not (is_gt (slice_cmp arc_cmp path other))

-- the paths of so many arcs at most that come before all of them
abbrev pub first_paths : List (List ℕ) → Turn → ℕ → ℕ → List (List GraphArc)
first_paths rims t n pin = let paths = paths_within t n pin in filter (λ path. list_all (comes_first rims t path) paths) paths
