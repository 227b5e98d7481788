-- Files in memory as a list of names and contents: of two with one name the first counts. Our own.
use Rattle.std.specs.Prelude.{ℕ, ◌-◌, List, [], ◌∷◌, length, map, min, nat_lt, Option, Some, None, if◌then◌else◌, String, string_bytes}
use Rattle.std.specs.Str.{bytes_eq}
use Rattle.std.specs.declared.vec.Vec.{Vec}
use Rattle.std.specs.declared.alloc.Global.{Global}
use Rattle.outside.specs.declared.ReadAnswer.{ReadAnswer}
use Rattle.outside.specs.declared.ReadAnswer.TheVariants.{Got, End, Missing}

-- the names and contents of a vector of files
abbrev pub held_of : List (String Global × Vec ℕ Global) → List (List ℕ × List ℕ)
held_of files = map (λ f. (string_bytes f.0, f.1.items)) files

-- the content of the first file of this name
abbrev pub file_in : List (List ℕ × List ℕ) → List ℕ → Option (List ℕ)
file_in [] name = None
file_in (f ∷ fs) name = if bytes_eq f.0 name then Some f.1 else file_in fs name

-- the answer of a read that doesn't fail and gives as many bytes as there is room for
abbrev pub fullest_read : Option (List ℕ) → ℕ → ℕ → ReadAnswer
fullest_read None at room = Missing
fullest_read (Some bytes) at room = if nat_lt at (length bytes) then Got (min room (length bytes - at)) else End
