use Rattle.std.proofs.Common.{◌≡◌, ◌++◌, take}
use Rattle.texts.specs.Printing.{bit_digits}
use Rattle.table_copies.specs.Digits.{digits_of}
use Rattle.table_copies.proofs.printed.add_digits.Given as goal

-- the digits so far are added
abbrev pub invariant-loop-place : goal.invariant-loop-place
invariant-loop-place l = l.text.items ≡ l.initial.text.items ++ bit_digits (take l.place (digits_of l.assignment.count l.assignment.number))
