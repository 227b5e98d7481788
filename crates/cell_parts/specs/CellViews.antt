-- What the values of the program's inputs and roles stand for.
use Rattle.circuit.specs.Cells as cells
use Rattle.cell_parts.specs.declared.cells.Input.{Input}
use Rattle.cell_parts.specs.declared.cells.Input.TheVariants.{Wire, NotWire, Zero, One}
use Rattle.cell_parts.specs.declared.cells.Role.{Role}
use Rattle.cell_parts.specs.declared.cells.Role.TheVariants as role

abbrev pub input_of : Input → cells.Input
input_of (Wire w) = cells.InputWire w
input_of (NotWire w) = cells.InputNotWire w
input_of Zero = cells.InputZero
input_of One = cells.InputOne

abbrev pub role_of : Role → cells.Role
role_of role.Input = cells.InputPad
role_of role.Output = cells.OutputPad
role_of role.Clock = cells.ClockPad
