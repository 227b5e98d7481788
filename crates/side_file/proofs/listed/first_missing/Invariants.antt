use Rattle.std.proofs.Common.{◌≡◌, map, drop, not, find}
use Rattle.side_file.specs.Known.{has_name}
use Rattle.side_file.proofs.listed.first_missing.Given as goal

-- the first is among those that are left
abbrev pub invariant-loop-name : goal.invariant-loop-name
invariant-loop-name l =
    find (λ name. not (has_name l.set name)) (map (λ n. n.now) (drop l.name-index l.names))
    ≡ find (λ name. not (has_name l.set name)) (map (λ n. n.now) l.names)
