use Rattle.run_ends.specs.Counts.{Faults}
use Rattle.run_examples.proofs.CrossedRun.{ends_done, ends_so, ends_hardened}
use Rattle.run_examples.proofs.crossed_run_ends_hardened.Goals as goal

-- no device fails
no_faults : Faults
no_faults = record { reads = record { before = 0; now = 0 }; writes = record { before = 0; now = 0 }; prints = record { before = 0; now = 0 } }

pub returns : goal.returns
returns c = record { may = ends_done; only = ends_so; hardened = ends_hardened no_faults }
