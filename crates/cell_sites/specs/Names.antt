-- Names that a set holds, and records that a map finds by them. (Our own.)
use Rattle.std.specs.Prelude.{◌≡◌, ℕ, List, find}
use Rattle.std.specs.List.{list_any}
use Rattle.std.specs.Option.{option_copied}
use Rattle.std.specs.Ordering.{nat_cmp}
use Rattle.std.specs.BTreeMap.{BTreeMap, get}
use Rattle.std.specs.BTreeSet.{BTreeSet, contains}
use Rattle.std.specs.Cmp.Lexicographic.{slice_cmp}
use Rattle.std.specs.Str.{bytes_eq}
use denote.Ref.{Bor}

-- the map has, for each name, the first record of a list with it, and nothing else
pub record HoldsFirst {X : Type 0} (name : X → List ℕ) (items : List X) (map : BTreeMap (Bor (List ℕ)) (Bor X)) : Type 0 where
  pub found : (q : Bor (List ℕ)) → option_copied (get (λ a b. slice_cmp nat_cmp a.now b.now) map q) ≡ find (λ x. bytes_eq (name x) q.now) items

-- the set holds just these names
pub record HoldsNames (names : List (List ℕ)) (set : BTreeSet (Bor (List ℕ))) : Type 0 where
  pub found : (q : Bor (List ℕ)) → contains (λ a b. slice_cmp nat_cmp a.now b.now) set q ≡ list_any (bytes_eq q.now) names
