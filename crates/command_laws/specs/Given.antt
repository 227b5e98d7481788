-- What the words of a command give. (Our own.)
use Rattle.std.specs.Prelude.{◌≢◌, ◌≤◌}
use Rattle.commands.specs.Commands.{Hardening}

-- three names to write under that differ, and 1 to 256 attempts
pub record IsFitToHarden (h : Hardening) : Type 0 where
  pub text_and_side : h.out ≢ h.side_out
  pub text_and_cut : h.out ≢ h.cut_out
  pub side_and_cut : h.side_out ≢ h.cut_out
  pub some_rounds : 1 ≤ h.rounds
  pub few_rounds : h.rounds ≤ 256
