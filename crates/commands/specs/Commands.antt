-- The commands of the program, with what their words say. (Our own.)
use Rattle.std.specs.Prelude.{ℕ, List}
use Rattle.patterns.specs.Bits.{DeviceBit}
use Rattle.records.specs.Ripping.{Rip}

-- where the inputs of a design stand: the family's folder, the profile, the side file and the configuration
pub record Inputs : Type 0 where
  pub family : List ℕ
  pub profile : List ℕ
  pub side : List ℕ
  pub config : List ℕ

-- where `harden` writes, how many attempts it makes at most, and what it rips
pub record Hardening : Type 0 where
  pub out : List ℕ
  pub side_out : List ℕ
  pub cut_out : List ℕ
  pub rounds : ℕ
  pub rip : Rip

pub data Command : Type 0 where
  -- the name of a database file, and the bits that are set
  Drivers : List ℕ → List DeviceBit → Command
  Check : Inputs → Command
  Analyse : Inputs → Command
  Harden : Inputs → Hardening → Command
  Run : ℕ → Command
