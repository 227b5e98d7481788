-- How far a writing of all bytes has come.
use Rattle.std.proofs.Common.{◌≡◌, ℕ, List, ◌++◌}

-- all bytes but these last ones were appended
pub record AppendsBut (old new bytes rest : List ℕ) : Type 0 where
  pub front : List ℕ
  pub appended : new ≡ old ++ front
  pub whole : bytes ≡ front ++ rest
