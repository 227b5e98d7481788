-- What is asked of a design before it is hardened. (Our own.)
use Rattle.links.specs.Links.{IsClean}
use Rattle.fabric.specs.Agree.{ArcsAgree}
use Rattle.circuit.specs.Triplicated.{IsTriplicated}
use Rattle.repair.specs.Turns.{routing}
use Rattle.repair.specs.Layouts.{configured}
use Rattle.attempts.specs.Jobs.{Job, read_of}
use Rattle.layout_laws.specs.Named.{NamesOnce}
use Rattle.formed_laws.specs.Designs.{IsReadDesign}
use Rattle.check_laws.specs.Accepted.{FeedsAreModelled}

-- The design is one that is read, on a device that names nothing twice. Its routing is clean and its arcs agree, each
-- feed of a pin is a modelled output, and its circuit is triplicated.
pub record IsSoundJob (job : Job) : Type 0 where
  pub read : IsReadDesign job.device (configured job.design)
  pub names : NamesOnce job.device
  pub clean : IsClean (routing (configured job.design))
  pub agree : ArcsAgree job.design.graph (configured job.design).image job.design.config
  pub modelled : FeedsAreModelled (read_of job)
  pub triplicated : IsTriplicated (read_of job)
