use Rattle.std.proofs.Common.{◌≡◌, ℕ, ◌<◌, false, bytes_eq, take}
use Rattle.std.specs.Set.{is_member}
use Rattle.name_sets.proofs.name_set.NameSet.has_front_of.Given as goal

-- no front so far is one of the names
abbrev pub invariant-loop-end : goal.invariant-loop-end
invariant-loop-end l = (end : ℕ) → end < l.end → is_member bytes_eq l.self (take end l.bytes) ≡ false
