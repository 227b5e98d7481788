-- The turn of a net: in what a path for one of its connections is looked for.
use Rattle.links.specs.Links.{Routing}
use Rattle.records.specs.Config.{Config}
use Rattle.fabric.specs.Links.{routing_of}
use Rattle.circuit.specs.Parts.{Source}
use Rattle.circuit.specs.Circuits.{Circuit}
use Rattle.upset.specs.Configured.{Configured}

-- The circuit that was read; the text as it is routed so far, and what it configures; and the part whose output
-- is the net.
pub record Turn : Type 0 where
  pub read : Circuit
  pub config : Config
  pub now : Configured
  pub net : Source

-- the links of a configured circuit, and its cell outputs
abbrev pub routing : Configured → Routing
routing k = routing_of k.graph k.image
