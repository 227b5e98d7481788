use Rattle.std.proofs.Common.{◌≡◌, [], map, take}
use Rattle.name_numbers.specs.Numbers.{each_once}
use Rattle.name_numbers.proofs.numbers.NameNumbers.of.Given as goal

-- the names so far, each once
abbrev pub invariant-loop-name : goal.invariant-loop-name
invariant-loop-name l = l.numbers ≡ each_once [] (map (λ name. name.now) (take l.name-index l.names))
