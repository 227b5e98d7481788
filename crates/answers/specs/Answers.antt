-- How a run ends. (Our own.)
use Rattle.std.specs.Prelude.{ℕ, List}

pub data Status : Type 0 where
  Done : Status
  Unsafe : Status
  NoRoute : Status
  Refused : Status
  Usage : Status
  ReadFault : Status
  WriteFault : Status
  Memory : Status

-- the number that the program ends with
abbrev pub exit_number : Status → ℕ
exit_number Done = 0
exit_number Unsafe = 1
exit_number NoRoute = 2
exit_number Refused = 3
exit_number Usage = 4
exit_number ReadFault = 5
exit_number WriteFault = 6
exit_number Memory = 7

-- a status, and the text that is printed with it
pub record Answer : Type 0 where
  pub status : Status
  pub text : List ℕ
