-- The bounds that every tile keeps.
use Rattle.std.specs.Prelude.{ℕ, ◌≤◌}
use Rattle.records.specs.Limits.{most_in_tile}

-- the four numbers of a tile are small enough that each part of a device bit is below 2 ^ 32
pub record IsSmall (frames bits frame bit : ℕ) : Type 0 where
  pub cols : frames ≤ most_in_tile
  pub rows : bits ≤ most_in_tile
  pub start_frame : frame ≤ most_in_tile
  pub start_bit : bit ≤ most_in_tile
