use Rattle.std.proofs.Common.{◌≡◌, ◌++◌, map, take}
use Rattle.side_form.specs.Side.{names_of_triples}
use Rattle.side_file.proofs.names.add_entries.Given as goal

-- the names so far
abbrev pub invariant-loop-triple : goal.invariant-loop-triple
invariant-loop-triple l = map (λ n. n.now) l.names.items ≡ map (λ n. n.now) l.initial.names.items ++ names_of_triples (take l.triple-index l.triples)
