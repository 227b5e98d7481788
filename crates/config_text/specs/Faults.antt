-- The fault that an error of the reader stands for: none for want of memory.
use Rattle.std.specs.Prelude.{Option, Some, None}
use Rattle.config_grammar.specs.ConfigText as grammar
use Rattle.rr_ids.specs.Limits.{limit_of}
use Rattle.config_text.specs.declared.errors.ConfigError.{ConfigError}
use Rattle.config_text.specs.declared.errors.ConfigError.TheVariants.{BadLine, OutsideBlock, TooLarge, NoDevice, Memory}

abbrev pub fault_of : ConfigError → Option grammar.ConfigFault
fault_of (BadLine line) = Some (grammar.BadLine line)
fault_of (OutsideBlock line) = Some (grammar.OutsideBlock line)
fault_of (TooLarge limit) = Some (grammar.TooLarge (limit_of limit))
fault_of NoDevice = Some grammar.NoDevice
fault_of Memory = None
