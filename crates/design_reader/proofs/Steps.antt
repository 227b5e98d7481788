-- Readings of files, one after the other.
use Rattle.std.proofs.Common.{◌≡◌, ℕ, Bool, true, false, cond, List, length, refl, sym, ap, subst, ◌∙◌}
use Rattle.std.specs.Prelude.{Result, Ok, Err, Option, Some, None, nat_lt}
use Rattle.std.specs.declared.vec.Vec.{Vec}
use Rattle.std.specs.declared.alloc.Global.{Global}
use Rattle.json_forms.specs.Results.{◌>>=◌}
use Rattle.records.specs.Database.{TileDb}
use Rattle.records.specs.Limits.{most_database_bytes}
use Rattle.answers.specs.Refusals.{Refusal, TooLong}
use Rattle.design_files.specs.Parsed.{parsed, read_database}
use Rattle.design_files.specs.Designs.{database_in}
use Rattle.design_reader.specs.declared.errors.FileError.{FileError}
use Rattle.design_reader.specs.declared.errors.FileError.TheVariants.{Refused, Unread, Memory}
use Rattle.design_reader.specs.Answers.{Refuses, Gives, IsName, NoName, short_file, if_there, records_there, bytes_view}

-- the same of an equal expectation, and of more files
pub refuses_as : {Y : Type 0} (expected other : Result Y Refusal) (Reached Wider : List ℕ → Type 0) (e : FileError) → other ≡ expected → ((n : List ℕ) → Reached n → Wider n)
    → Refuses expected Reached e → Refuses other Wider e
refuses_as expected other Reached Wider (Refused text) same wider r = record { refusal = r.refusal; refused = same ∙ r.refused; its_text = r.its_text }
refuses_as expected other Reached Wider (Unread text) same wider r = record { name = r.name; reached = wider r.name r.reached; its_text = r.its_text }
refuses_as expected other Reached Wider Memory same wider r = tt

pub gives_as : {X Y : Type 0} (view : X → Y) (expected other : Result Y Refusal) (Reached Wider : List ℕ → Type 0) (result : Result X FileError) → other ≡ expected
    → ((n : List ℕ) → Reached n → Wider n) → Gives view expected Reached result → Gives view other Wider result
gives_as view expected other Reached Wider (Ok x) same wider h = same ∙ h
gives_as view expected other Reached Wider (Err e) same wider h = refuses_as expected other Reached Wider e same wider h

-- an error of the first of two readings is one of both
pub first_refuses : {Y Z : Type 0} (first : Result Y Refusal) (second : Y → Result Z Refusal) (Reached Wider : List ℕ → Type 0) (e : FileError)
    → ((n : List ℕ) → Reached n → Wider n) → Refuses first Reached e → Refuses (first >>= second) Wider e
first_refuses first second Reached Wider (Refused text) wider r = record { refusal = r.refusal; refused = ap (λ x. x >>= second) r.refused; its_text = r.its_text }
first_refuses first second Reached Wider (Unread text) wider r = record { name = r.name; reached = wider r.name r.reached; its_text = r.its_text }
first_refuses first second Reached Wider Memory wider r = tt

none_more : (name n : List ℕ) → NoName n → IsName name n
none_more name n h = absurd h

-- ---- a file, from its bytes

parsed_in_two : {X : Type 0} (name : List ℕ) (most : ℕ) (read : List ℕ → Result X Refusal) (file : Option (List ℕ)) → parsed name most read file ≡ (short_file name most file >>= if_there name read)
parsed_in_two name most read None = refl
parsed_in_two {X} name most read (Some bytes) = go (nat_lt most (length bytes))
  where
    go : (b : Bool) → cond b (Err (TooLong name)) (read bytes) ≡ (cond b (Err (TooLong name)) (Ok (Some bytes)) >>= if_there name read)
    go true = refl
    go false = refl

pub file_gives : {X : Type 0} (name : List ℕ) (most : ℕ) (read : List ℕ → Result X Refusal) (file : Option (List ℕ)) (there : Option (Vec ℕ Global)) (result : Result X FileError)
    → short_file name most file ≡ Ok (bytes_view there) → Gives (λ v. v) (if_there name read (bytes_view there)) NoName result
    → Gives (λ v. v) (parsed name most read file) (IsName name) result
file_gives name most read file there result is h =
    gives_as (λ v. v) (if_there name read (bytes_view there)) (parsed name most read file) NoName (IsName name) result
    (parsed_in_two name most read file ∙ ap (λ f. f >>= if_there name read) is) (none_more name) h

pub file_refused : {X : Type 0} (name : List ℕ) (most : ℕ) (read : List ℕ → Result X Refusal) (file : Option (List ℕ)) (e : FileError)
    → Refuses (short_file name most file) (IsName name) e → Refuses (parsed name most read file) (IsName name) e
file_refused name most read file e h =
    subst (λ p. Refuses p (IsName name) e) (sym (parsed_in_two name most read file)) (first_refuses (short_file name most file) (if_there name read) (IsName name) (IsName name) e (λ n i. i) h)

-- ---- a database, from the bytes of its file

database_in_two : (name : List ℕ) (file : Option (List ℕ)) → database_in name file ≡ (short_file name most_database_bytes file >>= records_there name)
database_in_two name None = refl
database_in_two name (Some bytes) = go (nat_lt most_database_bytes (length bytes))
  where
    go : (b : Bool) → cond b (Err (TooLong name)) (read_database name bytes) ≡ (cond b (Err (TooLong name)) (Ok (Some bytes)) >>= records_there name)
    go true = refl
    go false = refl

pub database_gives : (name : List ℕ) (file : Option (List ℕ)) (there : Option (Vec ℕ Global)) (result : Result TileDb FileError)
    → short_file name most_database_bytes file ≡ Ok (bytes_view there) → Gives (λ v. v) (records_there name (bytes_view there)) NoName result
    → Gives (λ v. v) (database_in name file) (IsName name) result
database_gives name file there result is h =
    gives_as (λ v. v) (records_there name (bytes_view there)) (database_in name file) NoName (IsName name) result
    (database_in_two name file ∙ ap (λ f. f >>= records_there name) is) (none_more name) h

pub database_refused : (name : List ℕ) (file : Option (List ℕ)) (e : FileError)
    → Refuses (short_file name most_database_bytes file) (IsName name) e → Refuses (database_in name file) (IsName name) e
database_refused name file e h =
    subst (λ p. Refuses p (IsName name) e) (sym (database_in_two name file))
    (first_refuses (short_file name most_database_bytes file) (records_there name) (IsName name) (IsName name) e (λ n i. i) h)
