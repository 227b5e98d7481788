-- What is read whatever files tell: some bytes are read as it. (Our own.)
use Rattle.std.specs.Prelude.{◌≡◌, ℕ, List, Result, Ok}
use Rattle.words.specs.Members.{In}
use Rattle.fabric.specs.Device.{TypeDb}
use Rattle.answers.specs.Refusals.{Refusal}
use Rattle.formed_laws.specs.DatabaseRead.{IsReadDatabase}

-- some bytes are read as this value
abbrev pub IsReadAs : {X : Type 0} → (List ℕ → Result X Refusal) → X → Type 0
IsReadAs read x = (bytes : List ℕ) × (read bytes ≡ Ok x)

-- each of the databases is read
abbrev pub AreReadDatabases : List TypeDb → Type 0
AreReadDatabases types = (t : TypeDb) → In types t → IsReadDatabase t.db
