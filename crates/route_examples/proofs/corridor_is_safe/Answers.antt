use Rattle.std.proofs.Common.{refl}
use Rattle.cells_examples.proofs.CorridorRead.{corridor_read}
use Rattle.route_examples.proofs.Answered.{told, corridor_safe}
use Rattle.route_examples.proofs.corridor_is_safe.Goals as goal

pub returns-clause-cells : goal.returns-clause-cells
returns-clause-cells c = corridor_read

pub returns-clause-clean : goal.returns-clause-clean
returns-clause-clean c = told.clean

pub returns-clause-safe : goal.returns-clause-safe
returns-clause-safe c = corridor_safe

pub returns-clause-bits : goal.returns-clause-bits
returns-clause-bits c = refl
