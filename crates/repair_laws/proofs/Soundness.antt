-- A turn that is ready.
use Rattle.fabric.specs.Device.{Device}
use Rattle.repair.specs.Turns.{Turn}
use Rattle.repair_laws.specs.Ready.{IsReadyTurn}
use Rattle.repair_laws.proofs.Numbers.{numbered}
use Rattle.repair_laws.proofs.Path.{Sound}

pub sound : (device : Device) (t : Turn) → IsReadyTurn device t → Sound t
sound device t r = record { numbers = numbered device t.now.graph r.ready.graph; clean = r.ready.clean; outputs = r.ready.outputs; settings = r.ready.settings; net = r.net }
