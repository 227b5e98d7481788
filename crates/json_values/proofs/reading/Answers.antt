use Rattle.std.proofs.Common.{rules}
use Rattle.json_values.proofs.Readings.{text_is_read, none_is_read}
use Rattle.json_values.proofs.reading.Goals as goal

pub returns-in-Ok : goal.returns-in-Ok
returns-in-Ok c = text_is_read _ _ c.in-Ok.ensures.ok.0 c.in-Ok.ensures.ok.1

pub returns-else-is_memory : goal.returns-else-is_memory
returns-else-is_memory c = none_is_read _ (c.in-Err.ensures.err (search rules))
