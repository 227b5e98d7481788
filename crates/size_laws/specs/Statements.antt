-- What is proved of the sizes of graphs.
use Rattle.std.specs.Prelude.{◌≡◌, ◌<◌, ◌≤◌, ℕ, List, length, count_by, nat_eq, slice_get, Some}
use Rattle.records.specs.Limits.{Wires, Muxes, Arcs, most_wires, most_muxes, most_arcs}
use Rattle.fabric.specs.Wires.{Wire}
use Rattle.fabric.specs.Device.{Device}
use Rattle.fabric.specs.GraphOf.{muxes_of, outputs_of}
use Rattle.link_rows.specs.Kept.{IsFirstTwice}
use Rattle.graph_numbers.specs.Numbers.{mux_numbers}
use Rattle.graph_numbers.specs.StandFor.{arc_numbers}
use Rattle.graph_numbers.specs.Graphs.{GraphNumbers, AreGraphNumbers}
use Rattle.size_laws.specs.Sizes.{AreWiresOf, IsTooLarge, IsSmall, OverlapsAt, OverlapsNowhere}

-- Too many wires; or else too many muxes; or else too many arcs.
abbrev pub WiresRefuse : Type 0
WiresRefuse = (device : Device) (wires : List Wire) → AreWiresOf device wires → most_wires < length wires → IsTooLarge device Wires

abbrev pub MuxesRefuse : Type 0
MuxesRefuse = (device : Device) (wires : List Wire) → AreWiresOf device wires → length wires ≤ most_wires
    → most_muxes < length (mux_numbers device wires) → IsTooLarge device Muxes

abbrev pub ArcsRefuse : Type 0
ArcsRefuse = (device : Device) (wires : List Wire) → AreWiresOf device wires → length wires ≤ most_wires → length (mux_numbers device wires) ≤ most_muxes
    → most_arcs < length (arc_numbers device wires (muxes_of device wires)) → IsTooLarge device Arcs

-- Numbers within their limits are those of a graph that isn't too large.
abbrev pub NoneRefuses : Type 0
NoneRefuses = (device : Device) (n : GraphNumbers) → AreGraphNumbers device n → length n.wires ≤ most_wires → length n.muxes ≤ most_muxes → length n.arcs ≤ most_arcs
    → IsSmall device

-- The least wire that stands twice among the cell outputs is the one that overlaps, and where none does, none overlaps.
abbrev pub TwiceOverlaps : Type 0
TwiceOverlaps = (device : Device) (wires : List Wire) (w : ℕ) (wire : Wire) → AreWiresOf device wires → IsFirstTwice (outputs_of device wires) w → slice_get wires w ≡ Some wire
    → OverlapsAt device wire

abbrev pub OnceDoesNot : Type 0
OnceDoesNot = (device : Device) (wires : List Wire) → AreWiresOf device wires → ((w : ℕ) → count_by (nat_eq w) (outputs_of device wires) < 2) → OverlapsNowhere device
