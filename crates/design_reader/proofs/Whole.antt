-- Files that are read whole.
use Rattle.std.proofs.Common.{◌≡◌, ℕ, Bool, true, false, cond, List, length, refl, ap}
use Rattle.std.specs.Prelude.{Ok, Err, Option, Some, None, nat_lt}
use Rattle.answers.specs.Refusals.{TooLong}
use Rattle.outside.specs.Whole.{whole_of}
use Rattle.outside.specs.declared.whole.WholeError.TheVariants as whole
use Rattle.design_reader.specs.Answers.{short_file}

-- a file that is there and short enough
pub file_there : (name : List ℕ) (most : ℕ) (file : Option (List ℕ)) (bytes : List ℕ) → whole_of file most ≡ Ok bytes → short_file name most file ≡ Ok (Some bytes)
file_there name most None bytes h = absurd (let no : ⊥ = cc in no)
file_there name most (Some all) bytes h = go (nat_lt most (length all)) h
  where
    go : (b : Bool) → cond b (Err whole.TooLong) (Ok all) ≡ Ok bytes → cond b (Err (TooLong name)) (Ok (Some all)) ≡ Ok (Some bytes)
    go true h = absurd (let no : ⊥ = cc in no)
    go false h = let same : all ≡ bytes = cc in ap (λ (xs : List ℕ). Ok (Some xs)) same

pub file_missing : (name : List ℕ) (most : ℕ) (file : Option (List ℕ)) → whole_of file most ≡ Err whole.Missing → short_file name most file ≡ Ok None
file_missing name most None h = refl
file_missing name most (Some all) h = go (nat_lt most (length all)) h
  where
    go : (b : Bool) → cond b (Err whole.TooLong) (Ok all) ≡ Err whole.Missing → cond b (Err (TooLong name)) (Ok (Some all)) ≡ Ok None
    go true h = absurd (let no : ⊥ = cc in no)
    go false h = absurd (let no : ⊥ = cc in no)

pub file_long : (name : List ℕ) (most : ℕ) (file : Option (List ℕ)) → whole_of file most ≡ Err whole.TooLong → short_file name most file ≡ Err (TooLong name)
file_long name most None h = absurd (let no : ⊥ = cc in no)
file_long name most (Some all) h = go (nat_lt most (length all)) h
  where
    go : (b : Bool) → cond b (Err whole.TooLong) (Ok all) ≡ Err whole.TooLong → cond b (Err (TooLong name)) (Ok (Some all)) ≡ Err (TooLong name)
    go true h = refl
    go false h = absurd (let no : ⊥ = cc in no)
