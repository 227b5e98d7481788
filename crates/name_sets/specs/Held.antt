-- Names that a set holds. (Our own.)
use Rattle.std.specs.Prelude.{◌≡◌, ℕ, List}
use Rattle.std.specs.Ordering.{nat_cmp}
use Rattle.std.specs.BTreeSet.{BTreeSet, contains}
use Rattle.std.specs.Cmp.Lexicographic.{slice_cmp}
use Rattle.std.specs.Set.{is_member}
use Rattle.std.specs.Str.{bytes_eq}
use denote.Ref.{Bor}

-- the set holds just the names of the list
abbrev pub HoldsNames : List (List ℕ) → BTreeSet (Bor (List ℕ)) → Type 0
HoldsNames names set = (q : Bor (List ℕ)) → contains (λ a b. slice_cmp nat_cmp a.now b.now) set q ≡ is_member bytes_eq names q.now
