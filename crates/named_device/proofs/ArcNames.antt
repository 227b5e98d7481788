-- The arc that is found is that of the graph.
use Rattle.std.proofs.Common.{◌≡◌, ℕ, List, ◌&&◌, Option, None, Some, bytes_eq}
use Rattle.std.specs.Prelude.{◌==◌, position}
use Rattle.fabric.specs.InOrder.{IsRising, InOrderOnce}
use Rattle.fabric.specs.Wires.{wire_cmp}
use Rattle.fabric.specs.Graph.{Graph}
use Rattle.fabric_laws.proofs.Orders.{wire_total}
use Rattle.fabric_laws.proofs.Sorted.{one_list}
use Rattle.graph_lists.specs.ArcLists.{ArcNumbers, numbers_cmp}
use Rattle.device_wires.specs.Named.{named_wires}
use Rattle.mux_rows.specs.MuxTable.{MuxNumbers}
use Rattle.record_laws.specs.Records.{AreArcsOf}
use Rattle.arc_search.specs.Numbers.{IsNumberOf, key_named}
use Rattle.arc_search.proofs.Named as law
use Rattle.device_numbers.specs.Numbered.{Numbered}

module _ (n : Numbered) (named : InOrderOnce wire_cmp (named_wires n.device) n.wires) (g : Graph) (muxes : List MuxNumbers) (arcs : List ArcNumbers) (standing : AreArcsOf n.device g muxes arcs) (m : ℕ) (source : List ℕ) where
  -- the wires are those of the graph
  same_wires : n.wires ≡ g.wires
  same_wires = one_list wire_cmp wire_total (named_wires n.device) n.wires g.wires named standing.of_muxes.is.wires

  pub arc_found : (key : ArcNumbers) (r : Option ℕ) → Some key ≡ key_named n.device n.wires muxes m source → (IsRising numbers_cmp arcs → IsNumberOf arcs key r)
      → r ≡ position (λ a. (a.mux == m) && bytes_eq a.arc.source source) g.arcs
  arc_found key r h number = law.arc_found n.device g muxes arcs standing m source n.wires same_wires key r h (number (law.rising n.device g muxes arcs standing))

  pub no_arc : None ≡ key_named n.device n.wires muxes m source → None ≡ position (λ a. (a.mux == m) && bytes_eq a.arc.source source) g.arcs
  no_arc h = law.no_arc n.device g muxes arcs standing m source n.wires same_wires h
