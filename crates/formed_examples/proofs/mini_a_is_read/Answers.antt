use Rattle.formed_examples.proofs.Databases.{slice_db_is, pad_db_is, clock_db_is, device_read}
use Rattle.formed_examples.proofs.mini_a_is_read.Goals as goal

pub returns : goal.returns
returns c = record { slices = slice_db_is; pads = pad_db_is; clocks = clock_db_is; device = device_read }
