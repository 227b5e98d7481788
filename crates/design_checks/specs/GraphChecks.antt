-- The size of a graph, and cell outputs that stand twice. (Our own.)
use Rattle.std.specs.Prelude.{◌≡◌, ℕ, ◌≤◌, List, length, count_by, Option, Some, None, slice_get, nat_eq, nat_lt, codes, if◌then◌else◌}
use Rattle.std.specs.Ordering.{nat_cmp}
use Rattle.words.specs.Firsts.{or_else}
use Rattle.records.specs.Limits.{Limit, Wires, Muxes, Arcs, limit_name, most_wires, most_muxes, most_arcs}
use Rattle.fabric.specs.Wires.{Wire}
use Rattle.fabric.specs.Device.{Device}
use Rattle.fabric.specs.Graph.{Graph}
use Rattle.fabric.specs.GraphOf.{outputs_of}
use Rattle.answers.specs.Refusals.{Refusal, TooLarge, OverlapShape}
use Rattle.design_checks.specs.Checks.{IsLeast}

-- the graph goes under this name, since it is no file
abbrev pub graph_name : List ℕ
graph_name = codes "graph"

abbrev pub size_refusal : Limit → ℕ → ℕ → Option Refusal
size_refusal limit most count = if nat_lt most count then Some (TooLarge graph_name (limit_name limit)) else None

-- too many wires, or else too many muxes, or else too many arcs
abbrev pub graph_size_refusal : Graph → Option Refusal
graph_size_refusal g =
    or_else (size_refusal Wires most_wires (length g.wires))
    (or_else (size_refusal Muxes most_muxes (length g.muxes)) (size_refusal Arcs most_arcs (length g.arcs)))

-- a wire is the output of two tables, registers or pads, at one site or at two
abbrev pub IsOutputTwice : Device → Graph → ℕ → Type 0
IsOutputTwice device g w = 2 ≤ count_by (nat_eq w) (outputs_of device g.wires)

-- 13: the least wire that is an output twice
pub data Overlap (device : Device) (g : Graph) : Refusal → Type 0 where
  overlap : (w : ℕ) (wire : Wire) → IsLeast nat_cmp (IsOutputTwice device g) w → slice_get g.wires w ≡ Some wire → Overlap device g (OverlapShape wire)
