-- What is reported of a whole design, one kind for each answer of a command. (Our own.)
use Rattle.std.specs.Prelude.{ℕ, List}
use Rattle.patterns.specs.Bits.{DeviceBit}
use Rattle.records.specs.Side.{Domain}
use Rattle.fabric.specs.Wires.{Wire}

-- where a domain is disturbed: at a wire, or where there is none in a named cell
pub data Place : Type 0 where
  AtWire : Wire → Place
  InCell : List ℕ → Place

-- a bad bit, with its two least domains and a place of each
pub record BadPlace : Type 0 where
  pub bit : DeviceBit
  pub first : Domain
  pub first_at : Place
  pub second : Domain
  pub second_at : Place

-- what happened in the list of attempts: one was blocked at a connection, a slice moved to another site, or one was
-- complete
pub data LogLine : Type 0 where
  Blocked : Wire → Wire → LogLine
  Moved : List ℕ → List ℕ → List ℕ → LogLine
  Complete : LogLine

-- why a list of attempts ended without a complete one
pub data EndWord : Type 0 where
  EndRounds : EndWord
  EndPad : EndWord
  EndSite : EndWord

-- how `run` ended
pub data RunWord : Type 0 where
  RunHardened : RunWord
  RunNoRoute : RunWord
  RunStanding : RunWord

-- the counts of what `check` accepted
pub record Counts : Type 0 where
  pub slices : ℕ
  pub pads : ℕ
  pub outputs : ℕ
  pub voters : ℕ

-- a cut: the net and the pin that it parts, the wires inside, and the rim
pub record CutReport : Type 0 where
  pub net : Wire
  pub pin : Wire
  pub inside : List Wire
  pub rim : List Wire

-- what `run` made, and how its hardening ended
pub record RunReport : Type 0 where
  pub blocks : ℕ
  pub tiles : ℕ
  pub slices : ℕ
  pub pads : ℕ
  pub bits : ℕ
  pub answer : RunWord
  pub attempts : ℕ
  pub connections : ℕ

pub data Report : Type 0 where
  Checked : Counts → Report
  -- the number of routing-mux bits
  Safe : ℕ → Report
  Unsafe : List BadPlace → Report
  Standing : List BadPlace → Report
  -- the log, and the number of ripped connections
  Hardened : List LogLine → ℕ → Report
  NoRoute : List LogLine → EndWord → Report
  CutFile : CutReport → Report
  Ran : RunReport → Report
