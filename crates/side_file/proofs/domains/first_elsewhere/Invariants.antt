use Rattle.std.proofs.Common.{◌≡◌, drop, not, find}
use Rattle.std.specs.List.{flat_map}
use Rattle.side_form.specs.Side.{entries_of_triple}
use Rattle.side_file.specs.ByDomain.{is_there}
use Rattle.side_file.proofs.domains.first_elsewhere.Given as goal

-- the first is among those that are left
abbrev pub invariant-loop-triple : goal.invariant-loop-triple
invariant-loop-triple l =
    find (λ entry. not (is_there l.sets entry)) (flat_map entries_of_triple (drop l.triple-index l.triples))
    ≡ find (λ entry. not (is_there l.sets entry)) (flat_map entries_of_triple l.triples)
