-- What a design that is accepted keeps. (Our own.)
use Rattle.std.specs.Prelude.{◌≡◌, ℕ}
use Rattle.words.specs.Members.{In}
use Rattle.records.specs.Config.{Config}
use Rattle.links.specs.Links.{Feeds, IsClean}
use Rattle.fabric.specs.Device.{Device}
use Rattle.fabric.specs.Agree.{ArcsAgree}
use Rattle.circuit.specs.Parts.{Source, sources}
use Rattle.circuit.specs.Pins.{Pin, pins}
use Rattle.circuit.specs.Circuits.{Circuit}
use Rattle.circuit.specs.Triplicated.{IsTriplicated}
use Rattle.upset.specs.Configured.{Configured, circuit_of}
use Rattle.repair.specs.Turns.{routing}
use Rattle.formed_laws.specs.Designs.{IsReadDesign}

-- each feed of a pin of a named cell is a modelled output
abbrev pub FeedsAreModelled : Circuit → Type 0
FeedsAreModelled c = (p : Pin) (o : ℕ) → In (pins c.cells) p → Feeds c.routing o p.wire → (s : Source) × (In (sources c.cells) s × (s.out ≡ o))

-- The design is read. No wire is contested, the arcs of the text are those that are chosen, pins are fed from named
-- cells alone, and the circuit is triplicated.
pub record IsSound (device : Device) (config : Config) (k : Configured) : Type 0 where
  pub read : IsReadDesign device k
  pub clean : IsClean (routing k)
  pub agree : ArcsAgree k.graph k.image config
  pub modelled : FeedsAreModelled (circuit_of k)
  pub triplicated : IsTriplicated (circuit_of k)
