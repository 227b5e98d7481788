-- What conducts after a flip of device bits. (Our own, and pessimistic: in a mux that the flip may have broken,
-- all arcs conduct whose plain bits are set.)
use Rattle.std.specs.Prelude.{ℕ, Bool, List, ◌++◌, map, filter, if◌then◌else◌}
use Rattle.std.specs.List.{list_any}
use Rattle.patterns.specs.Bits.{Bits, flipped}
use Rattle.patterns.specs.Fits.{present}
use Rattle.links.specs.Links.{Link, Routing}
use Rattle.fabric.specs.Graph.{GraphArc, Graph}
use Rattle.fabric.specs.Links.{arcs_of_mux, is_chosen, link_of}
use Rattle.fabric.specs.MuxBits.{bits_named}

-- a mux is affected when one of its patterns names a bit that flips
abbrev pub is_affected : Graph → Bits → ℕ → Bool
is_affected g flips mux = list_any (λ a. list_any flips (bits_named a.origin a.arc.bits)) (arcs_of_mux g mux)

-- an arc conducts after the flip: of an affected mux where it is then present, of another mux where it is chosen
abbrev pub conducts : Graph → Bits → Bits → GraphArc → Bool
conducts g image flips a = if is_affected g flips a.mux then present (flipped flips image) a.origin a.arc.bits else is_chosen g image a

-- the links after the flip, with the fixed connections and joins
abbrev pub links_after : Graph → Bits → Bits → List Link
links_after g image flips = map link_of (filter (conducts g image flips) g.arcs) ++ g.fixed

abbrev pub routing_after : Graph → Bits → Bits → Routing
routing_after g image flips = record { links = links_after g image flips; outputs = g.outputs }
