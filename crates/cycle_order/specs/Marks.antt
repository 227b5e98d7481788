-- Nodes that are listed, and their marks. (Our own.)
use Rattle.std.specs.Prelude.{◌≡◌, ℕ, ◌+◌, ◌<◌, ◌^◌, Bool, true, false, not, List, length, get_or}
use Rattle.std.specs.List.{count_by}
use Rattle.words.specs.Members.{In}

-- nodes below a count in the order in which they were listed
pub record Listing : Type 0 where
  pub count : ℕ
  pub nodes : List ℕ

-- the nodes that are marked are those that are listed, each once
pub record AreMarked (marks : List Bool) (nodes : List ℕ) : Type 0 where
  pub listed : (v : ℕ) → get_or marks v false ≡ true → In nodes v
  pub marked : (v : ℕ) → In nodes v → get_or marks v false ≡ true
  pub once : count_by not marks + length nodes ≡ length marks
  pub few : length marks < 2 ^ 32
