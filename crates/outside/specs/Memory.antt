-- Files and a sink in memory, of which chosen calls fail. Our own.
use Rattle.std.specs.Prelude.{ℕ, List}
use Rattle.outside.specs.Calls.{Calls}

-- the names and contents, the reads and the writes
pub record FilesInMemory : Type 0 where
  pub files : List (List ℕ × List ℕ)
  pub reads : Calls
  pub writes : Calls

-- the written bytes, how many a call takes at most, and the calls
pub record SinkInMemory : Type 0 where
  pub written : List ℕ
  pub most : ℕ
  pub calls : Calls
