-- What is read was read from some bytes.
use Rattle.std.proofs.Common.{◌≡◌, ℕ, inl, inr, List, [], ◌∷◌, ◌++◌, refl, sym, ap, subst}
use Rattle.std.specs.Prelude.{Result, Ok, Err, Option, Some, None, IfOk}
use Rattle.records.specs.Database.{TileDb}
use Rattle.records.specs.Grid.{Grid}
use Rattle.fabric.specs.Device.{TypeDb}
use Rattle.answers.specs.Refusals.{Refusal}
use Rattle.grammars.specs.BitsDb.{database_of}
use Rattle.design_files.specs.Parsed.{or_refused, database_refusal, form_refusal, read_grid}
use Rattle.design_files.specs.Designs.{no_records}
use Rattle.json_forms.specs.Grid.{grid_of}
use Rattle.formed_laws.specs.DatabaseRead.{IsReadDatabase}
use Rattle.formed_laws.specs.Readers.{IsReadGrid}
use Rattle.design_reader.specs.declared.errors.FileError.{FileError}
use Rattle.design_reader.specs.Answers.{Gives, NoName, if_there, records_there}
use Rattle.design_reader.specs.Forms.{IsReadAs, AreReadDatabases}

-- what isn't refused is what the reader gave
pub not_refused : {X F : Type 0} (refusal : F → Refusal) (r : Result X F) (x : X) → or_refused refusal r ≡ Ok x → r ≡ Ok x
not_refused refusal (Ok y) x e = (let same : y ≡ x = cc in ap (λ z. Ok z) same)
not_refused refusal (Err f) x e = absurd (let wrong : ⊥ = cc in wrong)

-- a file that is there is read as a value
pub read_as : {X : Type 0} (name : List ℕ) (read : List ℕ → Result X Refusal) (there : Option (List ℕ)) (result : Result X FileError)
    → Gives (λ value. value) (if_there name read there) NoName result → IfOk result (IsReadAs read)
read_as name read there (Err e) h = tt
read_as name read None (Ok x) h = absurd (let wrong : ⊥ = cc in wrong)
read_as name read (Some bytes) (Ok x) h = (bytes, h)

pub grid_read : (name : List ℕ) (result : Result Grid FileError) → IfOk result (IsReadAs (read_grid name)) → IfOk result IsReadGrid
grid_read name (Err e) h = tt
grid_read name (Ok grid) h = (h.0, not_refused (form_refusal name) (grid_of h.0) grid h.1)

-- ---- databases

-- no bytes are read as no records
no_bytes : database_of [] ≡ Ok no_records
no_bytes = refl

pub database_read : (name : List ℕ) (there : Option (List ℕ)) (result : Result TileDb FileError)
    → Gives (λ database. database) (records_there name there) NoName result → IfOk result IsReadDatabase
database_read name there (Err e) h = tt
database_read name None (Ok db) h =
    let same : no_records ≡ db = cc in
    ([], subst (λ (d : TileDb). database_of [] ≡ Ok d) same no_bytes)
database_read name (Some bytes) (Ok db) h = (bytes, not_refused (database_refusal name) (database_of bytes) db h)

behind_read : (types : List TypeDb) (last : TypeDb) → AreReadDatabases types → IsReadDatabase last.db → AreReadDatabases (types ++ last ∷ [])
behind_read [] last before here t i = elim i [ inl e ↦ subst (λ (u : TypeDb). IsReadDatabase u.db) e here | inr j ↦ absurd j ]
behind_read (u ∷ types) last before here t i = elim i [ inl e ↦ before t (inl e) | inr j ↦ behind_read types last (λ v k. before v (inr k)) here t j ]

-- one more database that is read
pub more_read : (types more : List TypeDb) (last : TypeDb) → more ≡ types ++ last ∷ [] → AreReadDatabases types → IsReadDatabase last.db → AreReadDatabases more
more_read types more last is before here = subst AreReadDatabases (sym is) (behind_read types last before here)
