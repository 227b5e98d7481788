-- Why a JSON file isn't read. (Our own.)
use Rattle.std.specs.Prelude.{ℕ, List, codes}
use Rattle.records.specs.Limits.{Limit}

-- no JSON; a member, an element or a tile of another shape, by its key; a limit that is passed
pub data FormFault : Type 0 where
  NotJson : FormFault
  BadShape : List ℕ → FormFault
  TooLarge : Limit → FormFault

-- the key of a file that isn't an object
abbrev pub top_key : List ℕ
top_key = codes "."
