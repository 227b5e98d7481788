use Rattle.std.proofs.Common.{map, take}
use Rattle.side_file.specs.Known.{KnowsNames}
use Rattle.side_file.proofs.listed.set_of.Given as goal

-- the names so far
abbrev pub invariant-loop-name : goal.invariant-loop-name
invariant-loop-name l = KnowsNames l.set (map (λ n. n.now) (take l.name-index l.names))
