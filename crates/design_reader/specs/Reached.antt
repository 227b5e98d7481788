-- The databases to which a reading may come. (Our own.)
use Rattle.std.specs.Prelude.{◌≡◌, ℕ, List}
use Rattle.design_files.specs.Names.{database_name}
use Rattle.design_files.specs.Parsed.{Files}
use Rattle.run_ends.specs.Reads.{IsNextDatabase}

-- the database of a type of a list, where all those before it were read
pub record IsDatabaseReached (files : Files) (family : List ℕ) (kinds : List (List ℕ)) (name : List ℕ) : Type 0 where
  pub kind : List ℕ
  pub next : IsNextDatabase files family kinds kind
  pub its_name : name ≡ database_name family kind
