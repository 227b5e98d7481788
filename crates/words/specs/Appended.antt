-- Bytes that grow at their end.
use Rattle.std.specs.Prelude.{◌≡◌, ℕ, List, ◌++◌}

-- some bytes of a text, from the first on, were appended: none, some or all of them
pub record AppendsFront (old new text : List ℕ) : Type 0 where
  pub front : List ℕ
  pub rest : List ℕ
  pub appended : new ≡ old ++ front
  pub whole : text ≡ front ++ rest
