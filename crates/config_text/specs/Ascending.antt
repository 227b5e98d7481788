-- Lists that stand in order already, as a tool writes them.
use Rattle.std.specs.Prelude.{ℕ, Bool, true, List, [], ◌∷◌, ◌&&◌}
use Rattle.std.specs.Ordering.{nat_cmp, is_lt}
use Rattle.std.specs.Cmp.Lexicographic.{slice_cmp}
use Rattle.records.specs.Config.{ArcLine, TileText}
use Rattle.config_grammar.specs.ConfigText.{arc_key}

-- the key of an element comes before that of the first of others
abbrev pub goes_before : {X : Type 0} → (X → List ℕ) → X → List X → Bool
goes_before key x [] = true
goes_before key x (y ∷ ys) = is_lt (slice_cmp nat_cmp (key x) (key y))

-- the key of each arc's line comes before that of the next
abbrev pub are_ascending : List ArcLine → Bool
are_ascending [] = true
are_ascending (a ∷ arcs) = goes_before arc_key a arcs && are_ascending arcs

-- each section comes before the next, and its arcs ascend
abbrev pub are_placed : List TileText → Bool
are_placed [] = true
are_placed (t ∷ ts) = (goes_before (λ u. u.tile) t ts && are_ascending t.arcs) && are_placed ts
