-- Which arcs are usable, computed as plainly as can be: rule by rule, those that are left over. It is a yardstick and
-- serves examples.
use Rattle.std.specs.Prelude.{ℕ, Bool, true, false, List, ◌++◌, map, filter, flat_map, not, ◌==◌, ◌&&◌, ◌||◌, slice_get}
use Rattle.std.specs.List.{list_any, list_all, enumerate_from}
use Rattle.std.specs.Option.{option_map_or}
use Rattle.patterns.specs.Bits.{DeviceBit, Bits, bits_of_list, flipped}
use Rattle.patterns.specs.Fits.{present, has_plain_bit}
use Rattle.records.specs.Config.{Config}
use Rattle.records.specs.Side.{Domain}
use Rattle.links.specs.Links.{Link}
use Rattle.links.specs.Below.{below, has}
use Rattle.fabric.specs.Graph.{GraphArc, Graph}
use Rattle.fabric.specs.Links.{arcs_of_mux, is_chosen, links_of}
use Rattle.fabric.specs.MuxBits.{bits_named, mux_bits}
use Rattle.fabric_laws.specs.PlainAgree.{same_arc}
use Rattle.circuit.specs.Pins.{pins}
use Rattle.upset.specs.Configured.{Configured}
use Rattle.upset.specs.Safe.{only}
use Rattle.upset_laws.specs.PlainUpset.{hit_wires, short_sources, has_two, FedWires, fed_wires, same_domain, domains_of}
use Rattle.repair.specs.Plain.{bits_of_mux, setting_bits, unknown_bits}
use Rattle.repair.specs.Added.{with_arc}
use Rattle.repair.specs.Turns.{Turn}
use Rattle.repair.specs.Usable.{is_on_grid}
use Rattle.route_laws.specs.PlainParts.{connections, is_listed}

-- a mux is plain
abbrev pub is_plain : Graph → Config → ℕ → Bool
is_plain g config mux =
    let own = bits_of_mux g mux in
    list_all (λ a. (a.mux == mux) || not (list_any (bits_of_list own) (bits_named a.origin a.arc.bits))) g.arcs
    && not (list_any (bits_of_list (setting_bits g)) own)
    && not (list_any (bits_of_list (unknown_bits g config)) own)
    && list_all (λ a. not (a.mux == mux) || has_plain_bit a.arc.bits) g.arcs

-- rule 1 in two: no bit of the mux is set, and the rest
abbrev pub is_clear : Configured → GraphArc → Bool
is_clear k a = list_all (λ b. not (k.image b)) (bits_of_mux k.graph a.mux)

abbrev pub has_free_sink : Configured → Config → GraphArc → Bool
has_free_sink k config a =
    option_map_or (is_on_grid k.graph.grid) (slice_get k.graph.wires a.sink) false
    && list_all (λ m. not (m.1.sink == a.sink) || (m.0 == a.mux)) (enumerate_from 0 k.graph.muxes)
    && is_plain k.graph config a.mux
    && list_all (λ l. not (l.sink == a.sink)) k.graph.fixed

-- rule 2
abbrev pub has_one_driver : List Link → ℕ → Bool
has_one_driver links w = let xs = map (λ l. l.source) (filter (λ l. l.sink == w) links) in list_any (λ x. true) xs && not (has_two xs)

abbrev pub one_driver_each : List Link → GraphArc → Bool
one_driver_each links a = list_all (λ w. (w == a.sink) || has_one_driver links w) (below links a.sink)

-- rule 3: some wires are neither fed nor cell outputs, and the pins among them are the net's own
abbrev pub none_fed : List Link → List ℕ → GraphArc → Bool
none_fed links outputs a = let fed = flat_map (below links) outputs in list_all (λ w. not (has fed w) && not (has outputs w)) (below links a.sink)

abbrev pub own_pins : Turn → GraphArc → Bool
own_pins t a =
    let ws = below (links_of t.now.graph t.now.image) a.sink in
    let read = connections t.read in
    list_all (λ p. is_listed read (record { source = t.net.part; pin = p.ref })) (filter (λ p. has ws p.wire) (pins t.now.cells))

-- rule 4
abbrev pub is_chosen_alone : Configured → GraphArc → Bool
is_chosen_alone k a =
    let image = with_arc k.image a in
    is_chosen k.graph image a && list_all (λ other. not (is_chosen k.graph image other) || same_arc other a) (arcs_of_mux k.graph a.mux)

-- the domain of a wire, where it has one, is this
abbrev pub keeps_domain : List FedWires → Domain → ℕ → Bool
keeps_domain fed d w = list_all (λ f. not (has f.wires w) || same_domain f.domain d) fed

abbrev pub flips_stay_within : Configured → List FedWires → Domain → GraphArc → Bool
flips_stay_within k fed d a =
    let image = with_arc k.image a in
    let own = arcs_of_mux k.graph a.mux in
    list_all (λ b. list_all (λ other. not (present (flipped (only b) image) other.origin other.arc.bits) || keeps_domain fed d other.source) own) (bits_of_mux k.graph a.mux)

-- Rule 5 goes by the wires where a flip of another domain begins to disturb: those that it hits, and the sources of
-- shorted ones.
abbrev pub is_foreign : Configured → List FedWires → Domain → Bits → Bool
is_foreign k fed d flips = list_any (λ e. not (same_domain e d)) (domains_of k fed flips)

abbrev pub foreign_bits : Configured → List FedWires → Domain → List DeviceBit
foreign_bits k fed d = filter (λ b. is_foreign k fed d (only b)) (mux_bits k.graph)

abbrev pub foreign_wires : Configured → List FedWires → Domain → List ℕ
foreign_wires k fed d = flat_map (λ b. hit_wires k (only b) ++ short_sources k (only b)) (foreign_bits k fed d)

abbrev pub none_foreign : List Link → List ℕ → GraphArc → Bool
none_foreign links foreign a = not (list_any (has foreign) (below links a.sink))

-- the arcs of a list that are usable, where the first rule of all drops most of them
abbrev pub usable_among : Turn → List GraphArc → List GraphArc
usable_among t arcs =
    let k = t.now in
    let links = links_of k.graph k.image in
    let fed = fed_wires k in
    let foreign = foreign_wires k fed t.net.domain in
    let clear = filter (is_clear k) arcs in
    let free = filter (λ a. none_fed links k.graph.outputs a && one_driver_each links a && has_free_sink k t.config a) clear in
    filter (λ a. own_pins t a && is_chosen_alone k a && flips_stay_within k fed t.net.domain a && none_foreign links foreign a) free
