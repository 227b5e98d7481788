use Rattle.std.proofs.Common.{take}
use Rattle.name_sets.specs.Held.{HoldsNames}
use Rattle.name_sets.proofs.name_set.lent_names.Given as goal

-- the names so far
abbrev pub invariant-loop-name : goal.invariant-loop-name
invariant-loop-name l = HoldsNames (take l.name-index l.names) l.lent
