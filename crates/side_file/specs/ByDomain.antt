-- Names of cells by their domains.
use Rattle.std.specs.Prelude.{◌≡◌, ℕ, Bool, not, List, find, Option, option_map}
use Rattle.std.specs.List.{flat_map}
use Rattle.std.specs.BTreeSet.{BTreeSet}
use Rattle.records.specs.Side.{Domain, D0, D1, D2, Placed, Triple}
use Rattle.side_form.specs.Side.{entries_of_triple, is_in_domain}
use Rattle.side_file.specs.Known.{NameKey, has_name}
use Rattle.side_file.specs.declared.domains.ByDomain.{ByDomain}

abbrev pub names_of : ByDomain → Domain → BTreeSet NameKey
names_of sets D0 = sets.zero
names_of sets D1 = sets.one
names_of sets D2 = sets.two

-- a name stands among those of a domain
abbrev pub is_there : ByDomain → List ℕ × Domain → Bool
is_there sets entry = has_name (names_of sets entry.1) entry.0

-- the first entry of triples that isn't there
abbrev pub elsewhere_in : ByDomain → List Triple → Option (List ℕ)
elsewhere_in sets triples = option_map (λ entry. entry.0) (find (λ entry. not (is_there sets entry)) (flat_map entries_of_triple triples))

-- the sets hold just the names of these cells, by their domains
abbrev pub KnowsDomains : ByDomain → List Placed → Type 0
KnowsDomains sets cells = (entry : List ℕ × Domain) → is_there sets entry ≡ is_in_domain cells entry
