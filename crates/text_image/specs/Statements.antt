-- What is proved of look-ups by names.
use Rattle.fabric.specs.Device.{Device}
use Rattle.fabric.specs.Graph.{Graph}
use Rattle.fabric.specs.GraphOf.{IsGraph}
use Rattle.named_graph.specs.Standing.{StandsInTiles}

-- The graph of a device stands in its tiles.
abbrev pub DeviceGraphsStand : Type 0
DeviceGraphsStand = (device : Device) (g : Graph) → IsGraph device g → StandsInTiles g
