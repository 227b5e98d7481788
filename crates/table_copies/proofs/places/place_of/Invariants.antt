use Rattle.std.proofs.Common.{map}
use Rattle.table_copies.specs.Places.{IsAfter}
use Rattle.table_copies.proofs.places.place_of.Given as goal

-- the part comes after those so far
abbrev pub invariant-loop-place : goal.invariant-loop-place
invariant-loop-place l = IsAfter (map (λ s. s.part) l.parts) l.part.part l.place
