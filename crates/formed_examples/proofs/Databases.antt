-- The texts of the databases are read as they should be.
use Rattle.std.proofs.Common.{◌≡◌, inl, inr, refl, subst}
use Rattle.std.specs.Prelude.{Ok}
use Rattle.words.specs.Members.{In}
use Rattle.fabric.specs.Device.{TypeDb}
use Rattle.grammars.specs.BitsDb.{database_of}
use Rattle.mini.specs.MiniA.{mini_a, mlc, mio, mck}
use Rattle.formed_laws.specs.DatabaseRead.{IsReadDatabase, IsReadDevice}
use Rattle.formed_examples.specs.Databases.{slice_db_text, pad_db_text, clock_db_text}
use Rattle.formed_examples.proofs.Texts.{grid_read, profile_read}

pub slice_db_is : database_of slice_db_text ≡ Ok mlc
slice_db_is = refl

pub pad_db_is : database_of pad_db_text ≡ Ok mio
pad_db_is = refl

pub clock_db_is : database_of clock_db_text ≡ Ok mck
clock_db_is = refl

types_read : (t : TypeDb) → In mini_a.types t → IsReadDatabase t.db
types_read t i = elim i [
  | inl e ↦ subst (λ (u : TypeDb). IsReadDatabase u.db) e (clock_db_text, clock_db_is)
  | inr j ↦ elim j [
    | inl e ↦ subst (λ (u : TypeDb). IsReadDatabase u.db) e (pad_db_text, pad_db_is)
    | inr k ↦ elim k [
      | inl e ↦ subst (λ (u : TypeDb). IsReadDatabase u.db) e (slice_db_text, slice_db_is)
      | inr none ↦ absurd none
    ]
  ]
]

pub device_read : IsReadDevice mini_a
device_read = record { grid = grid_read; types = types_read; profile = profile_read }
