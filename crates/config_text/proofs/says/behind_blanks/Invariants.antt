use Rattle.std.proofs.Common.{◌≡◌, length}
use Rattle.config_grammar.specs.ConfigLines.{behind_blanks}
use Rattle.config_text.proofs.says.behind_blanks.Given as goal

-- only blanks were passed over
abbrev pub invariant-loop-first : goal.invariant-loop-first
invariant-loop-first l = behind_blanks l.rest ≡ behind_blanks l.text

abbrev pub decreases-loop-first : goal.decreases-loop-first
decreases-loop-first l = length l.rest
