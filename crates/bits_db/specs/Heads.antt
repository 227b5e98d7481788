-- The heads and kinds of the program, and those of the grammar that they stand for.
use Rattle.std.specs.Prelude.{◌≡◌, List, ℕ, true, Option, Some, None, option_map}
use denote.Ref.{Bor}
use Rattle.texts.specs.Names.{is_name}
use Rattle.grammars.specs.BitsDb as db
use Rattle.bits_db.specs.declared.head.Head.{Head}
use Rattle.bits_db.specs.declared.head.Head.TheVariants.{Mux, Word, Enum, Fixed}

abbrev pub head_view : Head → db.Head
head_view (Mux sink) = db.MuxHead sink.now
head_view (Word name) = db.WordHead name.now
head_view (Enum name default) = db.EnumHead name.now (option_map (λ d. d.now) default)
head_view (Fixed sink source) = db.FixedHead sink.now source.now

-- the default, where there is one, is a name
abbrev pub IsDefault : Option (Bor (List ℕ)) → Type 0
IsDefault None = Unit {0}
IsDefault (Some name) = is_name name.now ≡ true

-- what a head names are names
abbrev pub AreNames : Head → Type 0
AreNames (Mux sink) = is_name sink.now ≡ true
AreNames (Word name) = is_name name.now ≡ true
AreNames (Enum name default) = (is_name name.now ≡ true) × IsDefault default
AreNames (Fixed sink source) = (is_name sink.now ≡ true) × (is_name source.now ≡ true)
