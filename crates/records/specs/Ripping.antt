-- Which nets are ripped, as the words of a command say it. (Our own.)

-- those that a bad bit reaches, or all; clock nets never are
pub data Rip : Type 0 where
  RipUnsafe : Rip
  RipAll : Rip
