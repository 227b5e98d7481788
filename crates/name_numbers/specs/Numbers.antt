-- Names under numbers: each once, in order of first use; the number of a name is its place. (Our own.)
use Rattle.std.specs.Prelude.{◌≡◌, ℕ, List, [], ◌∷◌, ◌++◌, position, Option, if◌then◌else◌}
use Rattle.std.specs.Option.{is_some}
use Rattle.std.specs.Ordering.{nat_cmp}
use Rattle.std.specs.BTreeMap.{BTreeMap, get}
use Rattle.std.specs.Cmp.Lexicographic.{slice_cmp}
use Rattle.std.specs.Str.{bytes_eq}
use denote.Ref.{Bor}

-- the number of a name
abbrev pub number_of : List (List ℕ) → List ℕ → Option ℕ
number_of names name = position (bytes_eq name) names

-- the names, with one more at the end where it isn't there
abbrev pub with_name : List (List ℕ) → List ℕ → List (List ℕ)
with_name names name = if is_some (number_of names name) then names else names ++ name ∷ []

-- the names, with those of a list that aren't there, each once
abbrev pub each_once : List (List ℕ) → List (List ℕ) → List (List ℕ)
each_once names [] = names
each_once names (name ∷ more) = each_once (with_name names name) more

-- the map holds just the numbers of the names
abbrev pub HoldsNumbers : List (List ℕ) → BTreeMap (Bor (List ℕ)) ℕ → Type 0
HoldsNumbers names numbers = (q : Bor (List ℕ)) → get (λ a b. slice_cmp nat_cmp a.now b.now) numbers q ≡ number_of names q.now
