-- What the program's fields of registers stand for.
use Rattle.design_checks.specs.CopyChecks as checks
use Rattle.copy_rules.specs.declared.field.Field.{Field}
use Rattle.copy_rules.specs.declared.field.Field.TheVariants.{Set, Data, Enable, Reset, Clock}

abbrev pub field_of : Field → checks.Field
field_of Set = checks.InSet
field_of Data = checks.InData
field_of Enable = checks.InEnable
field_of Reset = checks.InReset
field_of Clock = checks.InClock
