-- The wires below a wire, as a list. What is below w along the links of a list is what is below w along all but
-- the first one, and where that holds the first one's source, what is below its sink along all but the first.
use Rattle.std.specs.Prelude.{ℕ, Bool, true, false, List, [], ◌∷◌, ◌++◌, ◌||◌}
use Rattle.std.proofs.Common.{eqb}
use Rattle.links.specs.Links.{Link}

-- a wire stands in a list
abbrev pub has : List ℕ → ℕ → Bool
has [] x = false
has (y ∷ ys) x = eqb y x || has ys x

-- the wires below a wire along the links of a list; that these are all, each maybe more than once, is `below_is_listed`
abbrev pub below : List Link → ℕ → List ℕ
below [] w = w ∷ []
below (l ∷ ls) w = let b = below ls w in elim (has b l.source) [ true ↦ b ++ below ls l.sink | false ↦ b ]
