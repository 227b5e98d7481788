use Rattle.std.proofs.Common.{◌≡◌, drop, length}
use Rattle.std.specs.Cmp.Lexicographic.{pointwise}
use Rattle.cells.specs.Shapes.{same_option}
use Rattle.setting_values.proofs.forms.same_options.Given as goal

-- those that are left are the same where all are
abbrev pub invariant-loop-i : goal.invariant-loop-i
invariant-loop-i l = record { as_many : length l.a ≡ length l.b; left : pointwise same_option (drop l.i l.a) (drop l.i l.b) ≡ pointwise same_option l.a l.b }
