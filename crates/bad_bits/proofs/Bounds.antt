-- A wire with a domain is one of the graph.
use Rattle.std.proofs.Common.{ℕ, ◌<◌, length}
use Rattle.records.specs.Side.{Domain}
use Rattle.links.specs.Links.{Routing, here, onto, Below}
use Rattle.link_order.specs.Order.{AreWithin}
use Rattle.fabric.specs.Device.{Device}
use Rattle.fabric.specs.GraphOf.{IsGraph}
use Rattle.fabric.specs.Links.{routing_of}
use Rattle.circuit.specs.Domains.{HasDomain}
use Rattle.upset.specs.Configured.{Configured, circuit_of}
use Rattle.live_routing.proofs.Standing.{links_within, outputs_within}

reached_below : (r : Routing) (n c w : ℕ) → AreWithin n r.links → c < n → Below r c w → w < n
reached_below r n c w within below here = below
reached_below r n c w within below (onto {b} q s) = (within (record { source = b; sink = w }) s).1

pub domain_below : (device : Device) (k : Configured) → IsGraph device k.graph → (w : ℕ) (d : Domain) → HasDomain (circuit_of k) w d → w < length k.graph.wires
domain_below device k is w d h =
    reached_below (routing_of k.graph k.image) (length k.graph.wires) h.source.out w (links_within device k.graph is k.image)
    (outputs_within device k.graph is h.source.out h.feeds.output) h.feeds.reach
