use Rattle.std.proofs.Common.{◌≡◌, ℕ, ◌<◌, get_or, false}
use Rattle.texts.specs.PatternBits.{is_b}
use Rattle.text_cut.proofs.pattern.b_place.Given as goal

abbrev pub invariant-loop-i : goal.invariant-loop-i
invariant-loop-i l = (k : ℕ) → k < l.i → is_b (get_or l.text k 0) ≡ false
