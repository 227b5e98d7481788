-- Rows of the numbers of arcs and of muxes.
use Rattle.std.proofs.Common.{◌≡◌, ℕ, List, map, sym, ap, ◌∙◌}
use Rattle.std.specs.Prelude.{◌==◌}
use Rattle.std.specs.Cmp.{IsTotalOrder, nat_cmp_total, on_total, then_total}
use Rattle.fabric.specs.InOrder.{InOrderOnce}
use Rattle.fabric.specs.Device.{Device}
use Rattle.fabric.specs.Graph.{Graph, GraphMux}
use Rattle.fabric.specs.GraphOf.{IsGraph, arcs_of}
use Rattle.fabric_laws.proofs.Sorted.{one_list}
use Rattle.graph_lists.specs.ArcLists.{ArcNumbers, muxes_into, numbers_cmp, numbers_of}
use Rattle.graph_lists.specs.Places.{places}
use Rattle.graph_lists.proofs.BitsOf.{numbers_in_order}
use Rattle.place_rows.proofs.RowsBy.{places-map}
use Rattle.mux_rows.specs.MuxTable.{MuxNumbers}

numbers_total : IsTotalOrder numbers_cmp
numbers_total =
    then_total (on_total (λ (a : ArcNumbers). a.sink) nat_cmp_total)
    (then_total (on_total (λ (a : ArcNumbers). a.source) nat_cmp_total)
    (then_total (on_total (λ (a : ArcNumbers). a.mux) nat_cmp_total) (on_total (λ (a : ArcNumbers). a.place) nat_cmp_total)))

pub arcs_are : (device : Device) (g : Graph) → IsGraph device g → (arcs : List ArcNumbers) → InOrderOnce numbers_cmp (map numbers_of (arcs_of device g.wires)) arcs → map numbers_of g.arcs ≡ arcs
arcs_are device g is arcs are =
    one_list numbers_cmp numbers_total (map numbers_of (arcs_of device g.wires)) (map numbers_of g.arcs) arcs (numbers_in_order (arcs_of device g.wires) g.arcs is.arcs) are

-- rows by a number of arcs are rows by that number of the graph's arcs
pub arcs_by : (key : ArcNumbers → ℕ) (g : Graph) (arcs : List ArcNumbers) → map numbers_of g.arcs ≡ arcs → (k : ℕ) → places (λ a. key a == k) arcs ≡ places (λ a. key (numbers_of a) == k) g.arcs
arcs_by key g arcs same k = ap (λ bs. places (λ a. key a == k) bs) (sym same) ∙ places-map numbers_of (λ a. key a == k) g.arcs

pub muxes_by : (g : Graph) (muxes : List MuxNumbers) → map (λ m. m.sink) g.muxes ≡ map (λ m. m.sink) muxes → (w : ℕ) → places (λ m. m.sink == w) muxes ≡ muxes_into g w
muxes_by g muxes same w =
    sym (places-map (λ (m : MuxNumbers). m.sink) (λ n. n == w) muxes) ∙ ap (λ ns. places (λ n. n == w) ns) (sym same) ∙ places-map (λ (m : GraphMux). m.sink) (λ n. n == w) g.muxes
