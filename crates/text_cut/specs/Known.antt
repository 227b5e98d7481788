-- Names that are known, lent from a text.
use Rattle.std.specs.Prelude.{◌≡◌, ℕ, Bool, List, [], ◌∷◌}
use Rattle.std.specs.declared.cmp.Ordering.TheVariants.{Less}
use Rattle.std.specs.List.{list_any}
use Rattle.std.specs.Str.{bytes_eq}
use Rattle.std.specs.Ordering.{nat_cmp}
use Rattle.std.specs.Cmp.Lexicographic.{slice_cmp}
use denote.Ref.{Bor}

-- whether a name is one of those
abbrev pub knows : List (Bor (List ℕ)) → List ℕ → Bool
knows names q = list_any (λ n. bytes_eq n.now q) names

-- each of the names comes before another
abbrev pub AreBelow : List (Bor (List ℕ)) → List ℕ → Type 0
AreBelow [] name = Unit {0}
AreBelow (n ∷ ns) name = (slice_cmp nat_cmp n.now name ≡ Less) × AreBelow ns name

-- a name comes before each of others
abbrev pub IsBelowAll : List ℕ → List (Bor (List ℕ)) → Type 0
IsBelowAll name [] = Unit {0}
IsBelowAll name (n ∷ ns) = (slice_cmp nat_cmp name n.now ≡ Less) × IsBelowAll name ns

-- each name comes before those behind it
abbrev pub AreAscending : List (Bor (List ℕ)) → Type 0
AreAscending [] = Unit {0}
AreAscending (n ∷ ns) = IsBelowAll n.now ns × AreAscending ns

-- all known names ascend, and come before another
pub record ComesNext (ascending others : List (Bor (List ℕ))) (name : List ℕ) : Type 0 where
  pub none : others ≡ []
  pub below : AreBelow ascending name
