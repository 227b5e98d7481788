-- Whether flips are bad, computed as plainly as can be: the wires that they hit, the sources of those that are
-- shorted, and the domains of all these and of the touched cells. It is a yardstick and serves examples.
use Rattle.std.specs.Prelude.{ℕ, Bool, true, false, List, ◌++◌, map, filter, flat_map, not, ◌==◌, ◌&&◌, ◌||◌, bytes_eq}
use Rattle.std.specs.List.{list_any, list_all}
use Rattle.words.specs.Members.{In}
use Rattle.patterns.specs.Bits.{Bits}
use Rattle.records.specs.Side.{Domain, D0, D1, D2}
use Rattle.links.specs.Below.{below, has}
use Rattle.fabric.specs.Graph.{GraphArc, Graph}
use Rattle.fabric.specs.Links.{links_of, is_chosen}
use Rattle.fabric.specs.MuxBits.{bits_named, mux_bits}
use Rattle.circuit.specs.Parts.{Source, sources}
use Rattle.circuit.specs.Triples.{members}
use Rattle.upset.specs.Configured.{Configured}
use Rattle.upset.specs.After.{conducts}
use Rattle.upset.specs.Effect.{touched_names}
use Rattle.upset.specs.Safe.{only}

-- the outputs of the named parts are cell outputs of the device
abbrev pub OutputsListed : Configured → Type 0
OutputsListed k = (s : Source) → In (sources k.cells) s → In k.graph.outputs s.out

-- the sources of a wire over the arcs that pass a test, and over fixed connections
abbrev pub sources_by : Graph → (GraphArc → Bool) → ℕ → List ℕ
sources_by g test w = map (λ a. a.source) (filter test (filter (λ a. a.sink == w) g.arcs)) ++ map (λ l. l.source) (filter (λ l. l.sink == w) g.fixed)

abbrev pub sources_before : Configured → ℕ → List ℕ
sources_before k w = sources_by k.graph (is_chosen k.graph k.image) w

abbrev pub sources_after : Configured → Bits → ℕ → List ℕ
sources_after k flips w = sources_by k.graph (conducts k.graph k.image flips) w

-- each number of the first list is in the second one
abbrev pub within : List ℕ → List ℕ → Bool
within xs ys = list_all (has ys) xs

-- the wires that affected muxes drive
abbrev pub affected_wires : Graph → Bits → List ℕ
affected_wires g flips = map (λ a. a.sink) (filter (λ a. list_any flips (bits_named a.origin a.arc.bits)) g.arcs)

abbrev pub hit_wires : Configured → Bits → List ℕ
hit_wires k flips =
    filter (λ w. not (within (sources_after k flips w) (sources_before k w) && within (sources_before k w) (sources_after k flips w))) (affected_wires k.graph flips)

-- two different numbers stand in a list
abbrev pub has_two : List ℕ → Bool
has_two xs = list_any (λ x. list_any (λ y. not (x == y)) xs) xs

abbrev pub is_joined : Configured → Bits → ℕ → Bool
is_joined k flips w = has_two (sources_after k flips w) || (has k.graph.outputs w && list_any (λ x. true) (sources_after k flips w))

abbrev pub short_sources : Configured → Bits → List ℕ
short_sources k flips = flat_map (sources_after k flips) (filter (is_joined k flips) (hit_wires k flips))

-- the wires that a modelled output feeds, with its domain
pub record FedWires : Type 0 where
  pub domain : Domain
  pub wires : List ℕ

abbrev pub fed_wires : Configured → List FedWires
fed_wires k = let links = links_of k.graph k.image in map (λ s. record { domain = s.domain; wires = below links s.out }) (sources k.cells)

abbrev pub same_domain : Domain → Domain → Bool
same_domain D0 D0 = true
same_domain D1 D1 = true
same_domain D2 D2 = true
same_domain _ _ = false

-- the domains of the flips, with those of the wires given
abbrev pub domains_of : Configured → List FedWires → Bits → List Domain
domains_of k fed flips =
    let roots = hit_wires k flips ++ short_sources k flips in
    map (λ f. f.domain) (filter (λ f. list_any (has f.wires) roots) fed)
    ++ map (λ m. m.domain) (filter (λ m. list_any (bytes_eq m.name) (touched_names k.cells flips)) (members k.cells))

abbrev pub two_domains : List Domain → Bool
two_domains ds = list_any (λ d. list_any (λ e. not (same_domain d e)) ds) ds

abbrev pub is_bad : Configured → Bits → Bool
is_bad k flips = two_domains (domains_of k (fed_wires k) flips)

-- no single routing-mux bit is bad
abbrev pub is_safe : Configured → Bool
is_safe k = let fed = fed_wires k in list_all (λ b. not (two_domains (domains_of k fed (only b)))) (mux_bits k.graph)
