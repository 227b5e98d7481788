-- Bad bits whose wires are told by number. (Our own.)
use Rattle.std.specs.Prelude.{ℕ, List}
use Rattle.patterns.specs.Bits.{DeviceBit}
use Rattle.records.specs.Side.{Domain}

-- where a domain is disturbed: at the wire of a number, or where there is none in a named cell
pub data NumberedPlace : Type 0 where
  OnWire : ℕ → NumberedPlace
  OnCell : List ℕ → NumberedPlace

-- a bad bit, with two domains and a place of each
pub record NumberedBad : Type 0 where
  pub bit : DeviceBit
  pub first : Domain
  pub first_at : NumberedPlace
  pub second : Domain
  pub second_at : NumberedPlace
