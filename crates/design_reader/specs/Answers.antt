-- What a reading of files answers. (Our own.)
use Rattle.std.specs.Prelude.{◌≡◌, ℕ, List, length, Result, Ok, Err, Option, Some, None, option_map, nat_lt, if◌then◌else◌}
use Rattle.std.specs.declared.vec.Vec.{Vec}
use Rattle.std.specs.declared.alloc.Global.{Global}
use Rattle.records.specs.Database.{TileDb}
use Rattle.answers.specs.Refusals.{Refusal, Missing, TooLong}
use Rattle.answers.specs.Texts.{refused_text, read_fault_text}
use Rattle.design_files.specs.Parsed.{read_database}
use Rattle.design_files.specs.Designs.{no_records}
use Rattle.design_reader.specs.declared.errors.FileError.{FileError}
use Rattle.design_reader.specs.declared.errors.FileError.TheVariants.{Refused, Unread, Memory}

-- a text is that of the refusal that is expected
pub record IsRefusedText {Y : Type 0} (expected : Result Y Refusal) (text : List ℕ) : Type 0 where
  pub refusal : Refusal
  pub refused : expected ≡ Err refusal
  pub its_text : text ≡ refused_text refusal

-- a text tells that a read of a file failed to which the reading may come
pub record IsUnreadText (Reached : List ℕ → Type 0) (text : List ℕ) : Type 0 where
  pub name : List ℕ
  pub reached : Reached name
  pub its_text : text ≡ read_fault_text name

-- an error tells the refusal that is expected, or of a file that may be read; want of memory may come at any time
abbrev pub Refuses : {Y : Type 0} → Result Y Refusal → (List ℕ → Type 0) → FileError → Type 0
Refuses expected Reached (Refused text) = IsRefusedText expected text.items
Refuses expected Reached (Unread text) = IsUnreadText Reached text.items
Refuses expected Reached Memory = Unit {0}

-- the answer is what is expected, or an error that tells why it isn't given
abbrev pub Gives : {X Y : Type 0} → (X → Y) → Result Y Refusal → (List ℕ → Type 0) → Result X FileError → Type 0
Gives view expected Reached (Ok x) = expected ≡ Ok (view x)
Gives view expected Reached (Err e) = Refuses expected Reached e

-- the one file of a name
abbrev pub IsName : List ℕ → List ℕ → Type 0
IsName name other = other ≡ name

-- no file
abbrev pub NoName : List ℕ → Type 0
NoName other = ⊥

-- the bytes of a file, if it is there and isn't too long
abbrev pub short_file : List ℕ → ℕ → Option (List ℕ) → Result (Option (List ℕ)) Refusal
short_file name most None = Ok None
short_file name most (Some bytes) = if nat_lt most (length bytes) then Err (TooLong name) else Ok (Some bytes)

-- what is read where a file is there; one that isn't there is refused
abbrev pub if_there : {X : Type 0} → List ℕ → (List ℕ → Result X Refusal) → Option (List ℕ) → Result X Refusal
if_there name read None = Err (Missing name)
if_there name read (Some bytes) = read bytes

-- the database where a file is there; one that isn't there has no records
abbrev pub records_there : List ℕ → Option (List ℕ) → Result TileDb Refusal
records_there name None = Ok no_records
records_there name (Some bytes) = read_database name bytes

abbrev pub bytes_view : Option (Vec ℕ Global) → Option (List ℕ)
bytes_view bytes = option_map (λ v. v.items) bytes
