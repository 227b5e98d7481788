-- Where a router starts, computed as plainly as can be: the nets that are ripped, the text without their routes, and
-- the ripped connections.
use Rattle.std.specs.Prelude.{ℕ, Bool, true, false, List, [], ◌∷◌, ◌++◌, map, filter, flat_map, not, ◌&&◌, option_and_then}
use Rattle.std.specs.List.{list_any, list_all}
use Rattle.std.specs.Option.{option_map_or}
use Rattle.std.specs.Ordering.{is_lt}
use Rattle.std.specs.declared.cmp.Ordering.{Ordering}
use Rattle.records.specs.Config.{ArcLine, TileText, Config}
use Rattle.records.specs.Ripping.{Rip, RipUnsafe, RipAll}
use Rattle.links.specs.Links.{Routing}
use Rattle.links.specs.Below.{below, has}
use Rattle.fabric.specs.Device.{Device}
use Rattle.fabric.specs.Image.{tile_named, arc_of_line}
use Rattle.fabric.specs.MuxBits.{mux_bits}
use Rattle.circuit.specs.Cells.{Cells}
use Rattle.circuit.specs.Parts.{sources}
use Rattle.circuit.specs.Circuits.{Connection}
use Rattle.upset.specs.Configured.{Configured}
use Rattle.upset.specs.Safe.{only}
use Rattle.upset_laws.specs.PlainUpset.{hit_wires, short_sources, fed_wires, domains_of, two_domains}
use Rattle.repair.specs.Layouts.{configured}
use Rattle.repair.specs.Nets.{nets, clock_nets}
use Rattle.repair.specs.Turns.{routing}
use Rattle.attempts.specs.Jobs.{Job, read_of}
use Rattle.attempts.specs.Wires.{connection_cmp}
use Rattle.route_laws.specs.PlainParts.{same_part, connections, is_listed}
use Rattle.route_laws.specs.PlainUsable.{is_plain}

-- the wires where bad routing-mux bits begin to disturb
abbrev pub bad_wires : Configured → List ℕ
bad_wires k = let fed = fed_wires k in flat_map (λ b. hit_wires k (only b) ++ short_sources k (only b)) (filter (λ b. two_domains (domains_of k fed (only b))) (mux_bits k.graph))

-- those of some nets that feed one of them, or all
abbrev pub chosen_nets : Rip → Configured → List ℕ → List ℕ
chosen_nets RipUnsafe k ns = let links = (routing k).links in let bad = bad_wires k in filter (λ net. has k.graph.outputs net && list_any (has (below links net)) bad) ns
chosen_nets RipAll k ns = ns

abbrev pub ripped_nets : Rip → Device → Configured → List ℕ
ripped_nets rip device k = chosen_nets rip k (filter (λ net. not (has (clock_nets k.cells) net)) (nets device k.graph k.side))

-- the wires that some nets feed
abbrev pub wires_of : Routing → List ℕ → List ℕ
wires_of r ns = flat_map (below r.links) (filter (has r.outputs) ns)

-- an arc line of a plain mux leads to one of some wires
abbrev pub is_ripped_line : Configured → Config → List ℕ → List ℕ → ArcLine → Bool
is_ripped_line k config wires tile line =
    option_map_or (λ a. has wires a.sink && is_plain k.graph config a.mux) (option_and_then (λ number. arc_of_line k.graph number line) (tile_named k.graph tile)) false

-- a text without the arc lines that pass a test
abbrev pub section_without : (List ℕ → ArcLine → Bool) → TileText → TileText
section_without drop text = record text { arcs = filter (λ line. not (drop text.tile line)) text.arcs }

abbrev pub without_lines : (List ℕ → ArcLine → Bool) → Config → Config
without_lines drop config = record config { tiles = map (section_without drop) config.tiles }

-- the text without the routes of ripped nets
abbrev pub rest_of : Rip → Device → Config → Configured → Config
rest_of rip device config k = let wires = wires_of (routing k) (ripped_nets rip device k) in without_lines (is_ripped_line k config wires) config

-- the connections of the circuit that was read whose net is ripped
abbrev pub ripped_connections : Job → List Connection
ripped_connections job =
    let ripped = ripped_nets job.rip job.device (configured job.design) in
    let named = filter (λ s. has ripped s.out) (sources job.design.cells) in
    filter (λ x. list_any (λ s. same_part s.part x.source) named) (connections (read_of job))

-- each element comes before all those behind it
abbrev pub rises : {X : Type 0} → (X → X → Ordering) → List X → Bool
rises cmp [] = true
rises cmp (x ∷ xs) = list_all (λ y. is_lt (cmp x y)) xs && rises cmp xs

-- the second list has the connections of the first, in order, each once
abbrev pub is_order : Cells → List Connection → List Connection → Bool
is_order cells named list = rises (connection_cmp cells) list && list_all (is_listed list) named && list_all (is_listed named) list
