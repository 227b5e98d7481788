-- A live routing. (Our own.)
use Rattle.std.specs.Prelude.{◌≡◌, List}
use Rattle.patterns.specs.Bits.{DeviceBit}
use Rattle.links.specs.Links.{Routing, IsClean}
use Rattle.fabric.specs.InOrder.{InOrderOnce}
use Rattle.fabric.specs.Graph.{Graph}
use Rattle.fabric.specs.Links.{links_of, routing_of}
use Rattle.link_order.specs.Order.{link_cmp}
use Rattle.cram_image.specs.Image.{bits}

-- a graph, an image over it, and what conducts in the image, with its links in order, each once
pub record LiveRouting : Type 0 where
  pub graph : Graph
  pub image : List DeviceBit
  pub routing : Routing

-- what conducts in the image of a live routing
abbrev pub live_routing : LiveRouting → Routing
live_routing live = routing_of live.graph (bits live.image)

-- the links are those of the image, in order, each once, the outputs are those of the graph, and the routing is clean
pub record IsLive (g : Graph) (image : List DeviceBit) (routing : Routing) : Type 0 where
  pub links : InOrderOnce link_cmp (links_of g (bits image)) routing.links
  pub outputs : routing.outputs ≡ g.outputs
  pub clean : IsClean (routing_of g (bits image))
