use Rattle.std.proofs.Common.{◌≡◌, ◌++◌, map, take}
use Rattle.part_triples.proofs.listed.add.Given as goal

-- the triples so far
abbrev pub invariant-loop-triple : goal.invariant-loop-triple
invariant-loop-triple l = map (λ t. t.now) l.all.items ≡ map (λ t. t.now) l.initial.all.items ++ take l.triple-index l.triples
