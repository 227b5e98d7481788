-- A text cut at separators.
use Rattle.std.specs.Prelude.{ℕ, ◌+◌, Bool, List, [], ◌∷◌, length, if◌then◌else◌}

-- a byte in front of the first piece
abbrev pub put_front : ℕ → List (List ℕ) → List (List ℕ)
put_front b [] = (b ∷ []) ∷ []
put_front b (p ∷ ps) = (b ∷ p) ∷ ps

-- the pieces between separators; behind a last separator there is none
abbrev pub pieces : (ℕ → Bool) → List ℕ → List (List ℕ)
pieces separates [] = []
pieces separates (b ∷ bs) = if separates b then [] ∷ pieces separates bs else put_front b (pieces separates bs)

-- a part of a source: the place of its first byte there, and its bytes
pub record Span : Type 0 where
  pub start : ℕ
  pub text : List ℕ

-- pieces as parts of a source, the first of which begins at a place, with one separator between two
abbrev pub placed : ℕ → List (List ℕ) → List Span
placed start [] = []
placed start (p ∷ ps) = record { start = start; text = p } ∷ placed (start + length p + 1) ps
