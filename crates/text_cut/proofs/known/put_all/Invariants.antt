use Rattle.std.proofs.Common.{◌≡◌, ◌++◌, ℕ, List, length}
use Rattle.text_cut.specs.Known.{knows}
use Rattle.text_cut.proofs.known.put_all.Given as goal

-- the names that are left and those of the set are all names
abbrev pub invariant-loop-name : goal.invariant-loop-name
invariant-loop-name l = (q : List ℕ) → knows (l.left.items ++ l.others.keys) q ≡ knows (l.fn.names.items ++ l.fn.others.keys) q

abbrev pub decreases-loop-name : goal.decreases-loop-name
decreases-loop-name l = length l.left.items
