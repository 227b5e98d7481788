-- The fault that an error of the reader stands for: none for want of memory.
use Rattle.std.specs.Prelude.{Option, Some, None}
use Rattle.grammars.specs.BitsDb as db
use Rattle.rr_ids.specs.Limits.{limit_of}
use Rattle.bits_db.specs.declared.error.DbError.{DbError}
use Rattle.bits_db.specs.declared.error.DbError.TheVariants.{BadLine, TooLarge, Memory}

abbrev pub fault_of : DbError → Option db.DbFault
fault_of (BadLine line) = Some (db.BadLine line)
fault_of (TooLarge limit) = Some (db.TooLarge (limit_of limit))
fault_of Memory = None
