-- What the values of the program's kinds of parts stand for.
use Rattle.circuit.specs.Parts as parts
use Rattle.cell_parts.specs.declared.parts.PartKind.{PartKind}
use Rattle.cell_parts.specs.declared.parts.PartKind.TheVariants.{Table, Register, Pad}
use Rattle.cell_parts.specs.declared.parts.Kind.{Kind}
use Rattle.cell_parts.specs.declared.parts.Kind.TheVariants as kind

abbrev pub part_of : PartKind → parts.PartKind
part_of (Table n) = parts.Table n
part_of (Register n) = parts.Register n
part_of Pad = parts.Pad

abbrev pub kind_of : Kind → parts.Kind
kind_of (kind.Table t) = parts.OfTable t.now
kind_of (kind.Register r) = parts.OfRegister r.now
kind_of kind.Input = parts.OfInput
kind_of kind.Clock = parts.OfClock
