use Rattle.std.proofs.Common.{subst}
use Rattle.tile_types.specs.Types.{AreTypesOf}
use Rattle.device_numbers.specs.Numbered.{Numbered}
use Rattle.device_numbers.proofs.device.DeviceNumbers.types.Goals as goal

pub returns : goal.returns
returns c = subst (λ (n : Numbered). AreTypesOf n.device c.self.inside.types) c.self.view_is c.self.invariant.types_are
