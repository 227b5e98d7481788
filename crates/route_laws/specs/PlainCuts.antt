-- Whether a connection is blocked by a cut, computed as plainly as can be.
use Rattle.std.specs.Prelude.{ℕ, zero, suc, nat_lt, Bool, true, List, [], ◌∷◌, ◌++◌, filter, flat_map, not, length, ◌&&◌, ◌||◌, ◌==◌}
use Rattle.std.specs.List.{list_any, list_all}
use Rattle.links.specs.Links.{Link}
use Rattle.links.specs.Below.{below, has}
use Rattle.fabric.specs.Graph.{GraphArc}
use Rattle.fabric.specs.Links.{links_of}
use Rattle.upset_laws.specs.PlainUpset.{within}
use Rattle.repair.specs.Turns.{Turn}
use Rattle.route_laws.specs.PlainUsable.{usable_among}

-- the tree of a net: what is below its wire
abbrev pub tree_of : Turn → List ℕ
tree_of t = filter (λ w. has t.now.graph.outputs t.net.out) (below (links_of t.now.graph t.now.image) t.net.out)

-- the wires that are reached from some wires over so many arcs at most
abbrev pub reached : List Link → List GraphArc → List ℕ → ℕ → List ℕ
reached links arcs ws zero = ws
reached links arcs ws (suc n) = let near = reached links arcs ws n in near ++ flat_map (λ a. below links a.sink) (filter (λ a. has near a.source) arcs)

-- the arcs whose source is one of some wires
abbrev pub leaving : Turn → List ℕ → List GraphArc
leaving t ws = filter (λ a. has ws a.source) t.now.graph.arcs

-- numbers in order, each once
abbrev pub is_rising : List ℕ → Bool
is_rising [] = true
is_rising (x ∷ xs) = list_all (nat_lt x) xs && is_rising xs

-- the rim of some wires: it lies outside, each of its wires is the sink of an arc that leaves them, and each such
-- sink that lies outside is in it
abbrev pub is_rim : List GraphArc → List ℕ → List ℕ → Bool
is_rim arcs inside rim =
    list_all (λ w. not (has inside w) && list_any (λ a. a.sink == w) arcs) rim
    && list_all (λ a. has inside a.sink || has rim a.sink) arcs

-- The wires inside hold the tree and not the pin, are closed along links and usable arcs, and are all reached; and
-- with the rim they stand in order.
abbrev pub is_blocked : Turn → List ℕ → List ℕ → ℕ → Bool
is_blocked t inside rim pin =
    let links = links_of t.now.graph t.now.image in
    let arcs = leaving t inside in
    let usable = usable_among t arcs in
    within (tree_of t) inside
    && not (has inside pin)
    && list_all (λ l. not (has inside l.source) || has inside l.sink) links
    && list_all (λ a. has inside a.sink) usable
    && within inside (reached links usable (tree_of t) (length inside))
    && is_rim arcs inside rim
    && is_rising inside
    && is_rising rim
