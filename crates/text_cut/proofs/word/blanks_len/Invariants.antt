use Rattle.std.proofs.Common.{◌≡◌, ℕ, ◌<◌, get_or, false, not}
use Rattle.texts.specs.Words.{is_blank}
use Rattle.text_cut.proofs.word.blanks_len.Given as goal

abbrev pub invariant-loop-i : goal.invariant-loop-i
invariant-loop-i l = (k : ℕ) → k < l.i → not (is_blank (get_or l.text k 0)) ≡ false
