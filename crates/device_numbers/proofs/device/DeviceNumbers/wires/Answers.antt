use Rattle.std.proofs.Common.{subst}
use Rattle.fabric.specs.InOrder.{InOrderOnce}
use Rattle.fabric.specs.Wires.{wire_cmp}
use Rattle.device_wires.specs.Named.{named_wires}
use Rattle.device_numbers.specs.Numbered.{Numbered}
use Rattle.device_numbers.proofs.device.DeviceNumbers.wires.Goals as goal

pub returns-clause-named : goal.returns-clause-named
returns-clause-named c = subst (λ (n : Numbered). InOrderOnce wire_cmp (named_wires n.device) n.wires) c.self.view_is c.self.invariant.wires_named
