-- What conducts in a set of device bits, over a graph.
use Rattle.std.specs.Prelude.{ℕ, Bool, List, ◌++◌, map, filter, ◌==◌}
use Rattle.patterns.specs.Bits.{Bits}
use Rattle.links.specs.Links.{Link, Routing}
use Rattle.fabric.specs.Chosen.{is_best_fit}
use Rattle.fabric.specs.Graph.{GraphArc, Graph}

-- the arcs of the mux of a number, in arc order
abbrev pub arcs_of_mux : Graph → ℕ → List GraphArc
arcs_of_mux g mux = filter (λ a. a.mux == mux) g.arcs

-- an arc is chosen among those of its mux
abbrev pub is_chosen : Graph → Bits → GraphArc → Bool
is_chosen g image a = is_best_fit (λ b. b.arc.bits) image a.origin (arcs_of_mux g a.mux) a

-- an arc as a link from its source to its sink
abbrev pub link_of : GraphArc → Link
link_of a = record { source = a.source; sink = a.sink }

-- The links: those of all chosen arcs, and the fixed connections and joins. (After Project Trellis.)
abbrev pub links_of : Graph → Bits → List Link
links_of g image = map link_of (filter (is_chosen g image) g.arcs) ++ g.fixed

-- links and cell outputs
abbrev pub routing_of : Graph → Bits → Routing
routing_of g image = record { links = links_of g image; outputs = g.outputs }
