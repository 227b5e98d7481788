use Rattle.std.proofs.Common.{◌≡◌, length, reverse}
use Rattle.config_grammar.specs.ConfigLines.{behind_blanks}
use Rattle.config_text.proofs.says.before_blanks.Given as goal

-- only blanks were left off
abbrev pub invariant-loop-last : goal.invariant-loop-last
invariant-loop-last l = reverse (behind_blanks (reverse l.rest)) ≡ reverse (behind_blanks (reverse l.text))

abbrev pub decreases-loop-last : goal.decreases-loop-last
decreases-loop-last l = length l.rest
