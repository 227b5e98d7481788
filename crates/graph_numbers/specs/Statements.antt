-- What is proved of muxes and arcs by numbers.
use Rattle.std.specs.Prelude.{◌≡◌, List, filter_map, map, Some}
use Rattle.fabric.specs.Wires.{Wire}
use Rattle.fabric.specs.InOrder.{InOrderOnce}
use Rattle.fabric.specs.Device.{Device}
use Rattle.fabric.specs.GraphOf.{muxes_of, arcs_of, arc_cmp, IsGraph}
use Rattle.graph_lists.specs.ArcLists.{ArcNumbers, numbers_cmp}
use Rattle.graph_numbers.specs.Numbers.{mux_numbers}
use Rattle.graph_numbers.specs.StandFor.{mux_of, arc_of, arc_numbers}
use Rattle.graph_numbers.specs.Graphs.{GraphNumbers, graph_with, AreGraphNumbers}

-- The numbers of muxes stand for the muxes of the device, one for each, in order.
abbrev pub MuxesAreNumbered : Type 0
MuxesAreNumbered = (device : Device) (wires : List Wire) → map (mux_of device) (mux_numbers device wires) ≡ map (λ m. Some m) (muxes_of device wires)

-- The numbers of arcs stand for the arcs of the device, one for each, in order.
abbrev pub ArcsAreNumbered : Type 0
ArcsAreNumbered = (device : Device) (wires : List Wire)
    → map (arc_of (muxes_of device wires)) (arc_numbers device wires (muxes_of device wires)) ≡ map (λ a. Some a) (arcs_of device wires)

-- Numbers of arcs that are put in order stand for the arcs in order, each once.
abbrev pub OrderIsKept : Type 0
OrderIsKept = (device : Device) (wires : List Wire) (sorted : List ArcNumbers) → InOrderOnce numbers_cmp (arc_numbers device wires (muxes_of device wires)) sorted
    → InOrderOnce arc_cmp (arcs_of device wires) (filter_map (arc_of (muxes_of device wires)) sorted)

-- The numbers of a device stand for its graph.
abbrev pub NumbersAreGraph : Type 0
NumbersAreGraph = (device : Device) (n : GraphNumbers) → AreGraphNumbers device n → IsGraph device (graph_with device n)
