use Rattle.part_copies.specs.Keys.{HoldsFirst}
use Rattle.part_copies.proofs.part_numbers.add_parts.Given as goal

-- the numbers of the parts so far
abbrev pub invariant-loop-place : goal.invariant-loop-place
invariant-loop-place l = HoldsFirst l.sources l.place l.names l.numbers
