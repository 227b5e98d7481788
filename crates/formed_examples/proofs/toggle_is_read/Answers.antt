use Rattle.upset_examples.proofs.Conditions.{toggle_clean, toggle_safe}
use Rattle.upset_examples.proofs.ToggleMeets.{toggle_triplicated}
use Rattle.formed_examples.proofs.Read.{toggle_read, toggle_masked}
use Rattle.formed_examples.proofs.toggle_is_read.Goals as goal

pub returns : goal.returns
returns c = record { read = toggle_read; clean = toggle_clean; triplicated = toggle_triplicated; safe = toggle_safe; masked = toggle_masked }
