-- A graph that is made, and why one isn't.
use Rattle.std.proofs.Common.{◌≡◌, ◌≤◌, ℕ, List, length, flat_map, slice_get, Some, nat_cmp, sym, ap, subst, ◌∙◌}
use Rattle.records.specs.Limits as limits
use Rattle.records.specs.Limits.{most_wires, most_muxes, most_arcs}
use Rattle.fabric.specs.InOrder.{InOrderOnce}
use Rattle.fabric.specs.Wires.{Wire, wire_cmp}
use Rattle.fabric.specs.Device.{Device}
use Rattle.fabric.specs.TileWires.{tile_wires}
use Rattle.fabric.specs.GraphOf.{IsGraph, fixed_of, link_cmp, muxes_of, outputs_of}
use Rattle.fabric_laws.proofs.Orders.{wire_total}
use Rattle.fabric_laws.proofs.Sorted.{one_list}
use Rattle.device_wires.specs.Named.{NamesTooMany}
use Rattle.graph_lists.specs.ArcLists.{numbers_cmp}
use Rattle.graph_numbers.specs.Numbers.{mux_numbers}
use Rattle.graph_numbers.specs.StandFor.{arc_numbers}
use Rattle.graph_numbers.proofs.Whole.{whole}
use Rattle.mux_rows.specs.MuxTable.{MuxTable}
use Rattle.arc_rows.specs.ArcTable.{ArcTable}
use Rattle.link_rows.specs.Kept.{AreBelow, IsFirstTwice, LinkTable, OutputTable}
use Rattle.link_order.specs.Order.{AreWithin}
use Rattle.links.specs.Links.{Link}
use Rattle.number_lists.proofs.Within.{links_within, outputs_below}
use Rattle.number_lists.specs.Routed.{IsRouted, Routed, graph_of, numbers_in, routed}
use Rattle.size_laws.specs.Sizes.{AreWiresOf, IsSmall, IsTooLarge}
use Rattle.size_laws.proofs.Counts.{none_refuses, twice_overlaps, wires_refuse}
use Rattle.patterns.specs.Bits.{DeviceBit}
use Rattle.fabric.specs.Graph.{Graph}
use Rattle.device_numbers.specs.Numbered.{Numbered}
use Rattle.record_laws.specs.Records.{AreMuxesOf}
use Rattle.row_laws.specs.BitRows.{AreBitRows}
use Rattle.route_graph.specs.Kept.{AreGraphEnds, AreGraphRows, IsKept}
use Rattle.route_graph.specs.Owned.{wire_of}
use Rattle.route_graph.specs.Why.{IsWhy}
use Rattle.route_graph.specs.declared.errors.OwnedWire.{OwnedWire}
use Rattle.route_graph.specs.declared.errors.GraphError.{GraphError}
use Rattle.route_graph.specs.declared.errors.GraphError.TheVariants.{Memory, Overlap}

pub too_many_wires : (device : Device) → NamesTooMany device → IsTooLarge device limits.Wires
too_many_wires device many = wires_refuse device many.wires many.named many.many

-- want of memory says nothing
pub memory_says_nothing : (device : Device) (e : GraphError) → e ≡ Memory → IsWhy device e
memory_says_nothing device e is = subst (IsWhy device) (sym is) tt

pub rows_made : (device : Device) (wires : List Wire) (muxes : MuxTable) (arcs : ArcTable) → AreWiresOf device wires → muxes ≡ record { tiles = length device.grid.tiles; wires = length wires; muxes = mux_numbers device wires }
    → InOrderOnce numbers_cmp (arc_numbers device wires (muxes_of device wires)) arcs.arcs → (arcs.wires ≡ length wires) × (arcs.muxes ≡ length muxes.muxes)
    → (length muxes.muxes ≤ most_muxes) × (length arcs.arcs ≤ most_arcs) → AreGraphRows device wires muxes arcs
rows_made device wires muxes arcs are table in_order counts few = record {
  wires_are = are;
  muxes_are = table;
  arcs_are = in_order;
  of_wires = counts.0;
  of_muxes = counts.1;
  few_muxes = few.0;
  few_arcs = few.1;
}

-- muxes and arcs within their limits are those of a graph that isn't too large
pub small : (device : Device) (wires : List Wire) (muxes : MuxTable) (arcs : ArcTable) → length wires ≤ most_wires → AreGraphRows device wires muxes arcs → IsSmall device
small device wires muxes arcs few rows g is =
    let are : AreWiresOf device wires = rows.wires_are in
    let same : g.wires ≡ wires = one_list wire_cmp wire_total (flat_map (tile_wires device) device.grid.tiles) g.wires wires is.wires are in
    none_refuses device (record { wires = wires; muxes = muxes.muxes; arcs = arcs.arcs; fixed = g.fixed; outputs = g.outputs })
    (record {
      wires = are;
      muxes = ap (λ (m : MuxTable). m.muxes) rows.muxes_are;
      arcs = rows.arcs_are;
      fixed = subst (λ ws. InOrderOnce link_cmp (fixed_of device ws) g.fixed) same is.fixed;
      outputs = subst (λ ws. InOrderOnce nat_cmp (outputs_of device ws) g.outputs) same is.outputs;
    }) few rows.few_muxes rows.few_arcs g is

-- the first wire that stands twice overlaps
pub overlap_is : (device : Device) (wires lent : List Wire) (w : ℕ) (wire : OwnedWire) → lent ≡ wires → IsSmall device → AreWiresOf device wires → IsFirstTwice (outputs_of device wires) w
    → slice_get lent w ≡ Some (wire_of wire) → IsWhy device (Overlap wire)
overlap_is device wires lent w wire same few are first there =
    (few, twice_overlaps device wires w (wire_of wire) are first (ap (λ (ws : List Wire). slice_get ws w) (sym same) ∙ there))

pub links_within_rows : (device : Device) (wires : List Wire) (n : ℕ) (links : List Link) → n ≡ length wires → links ≡ fixed_of device wires → AreWithin n links
links_within_rows device wires n links count are =
    subst (λ m. AreWithin m links) (sym count) (subst (λ (ls : List Link). AreWithin (length wires) ls) (sym are) (links_within device wires))

pub outputs_within_rows : (device : Device) (wires : List Wire) (n : ℕ) (outputs : List ℕ) → n ≡ length wires → outputs ≡ outputs_of device wires → AreBelow n outputs
outputs_within_rows device wires n outputs count are =
    subst (λ m. AreBelow m outputs) (sym count) (subst (λ (os : List ℕ). AreBelow (length wires) os) (sym are) (outputs_below device wires))

pub counted : (wires lent : List Wire) (n : ℕ) → lent ≡ wires → n ≡ length lent → n ≡ length wires
counted wires lent n same count = count ∙ ap (λ (ws : List Wire). length ws) same

pub few_wires : (wires lent : List Wire) → lent ≡ wires → length lent ≤ most_wires → length wires ≤ most_wires
few_wires wires lent same few = subst (λ (ws : List Wire). length ws ≤ most_wires) same few

module _ (device : Device) (wires : List Wire) (muxes : MuxTable) (arcs : ArcTable) (fixed : LinkTable) (outputs : OutputTable) where
  pub is_routed : AreGraphRows device wires muxes arcs → AreGraphEnds device wires fixed outputs → IsRouted device wires muxes arcs fixed outputs
  is_routed rows ends = record {
    numbers = record { wires = rows.wires_are; muxes = ap (λ (m : MuxTable). m.muxes) rows.muxes_are; arcs = rows.arcs_are; fixed = ends.links_are; outputs = ends.outputs_are };
    mux_tiles = ap (λ (m : MuxTable). m.tiles) rows.muxes_are;
    mux_wires = ap (λ (m : MuxTable). m.wires) rows.muxes_are;
    arc_wires = rows.of_wires;
    arc_muxes = rows.of_muxes;
    link_wires = ends.link_wires;
    output_wires = ends.output_wires;
    few_muxes = rows.few_muxes;
    few_arcs = rows.few_arcs;
  }

  pub graph_made : IsRouted device wires muxes arcs fixed outputs → (r : Routed) → r ≡ routed device wires muxes arcs fixed outputs → IsGraph device (graph_of r)
  graph_made is r made = subst (λ (x : Routed). IsGraph device (graph_of x)) (sym made) (whole device (numbers_in wires muxes arcs fixed outputs) is.numbers)

-- what is made of parts is kept
pub kept_of : (n m : Numbered) (muxes : MuxTable) (arcs : ArcTable) (fixed : LinkTable) (outputs : OutputTable) (bits : List (List DeviceBit)) → m ≡ n → IsRouted n.device n.wires muxes arcs fixed outputs
    → ((g : Graph) → AreMuxesOf m.device g muxes.muxes → AreBitRows g bits) → IsKept m muxes arcs fixed outputs bits
kept_of n m muxes arcs fixed outputs bits same is are =
    let here = subst (λ (x : Numbered). IsRouted x.device x.wires muxes arcs fixed outputs) (sym same) is in
    record {
      rows = here;
      bits_are = are (graph_of (routed m.device m.wires muxes arcs fixed outputs)) (record { is = whole m.device (numbers_in m.wires muxes arcs fixed outputs) here.numbers; muxes_are = here.numbers.muxes });
    }
