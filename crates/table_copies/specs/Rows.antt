-- What feeds the pins of parts, by numbers. (Our own.)
use Rattle.std.specs.Prelude.{◌≡◌, ℕ, ◌+◌, ◌<◌, List, [], length, slice_range, Option, None, Some}
use Rattle.circuit.specs.Cells.{Cells}
use Rattle.circuit.specs.Parts.{sources}
use Rattle.circuit.specs.Pins.{pins}
use Rattle.circuit_parts.specs.Flat.{first_pin}
use Rattle.part_copies.specs.declared.numbers.CopyNumbers.{CopyNumbers}

-- the entries of the pins of a part, or none where there is no part
abbrev pub IsRow : Cells → List (Option ℕ) → Option ℕ → List (Option ℕ) → Type 0
IsRow cells feeds None row = row ≡ []
IsRow cells feeds (Some k) row = k < length (sources cells) → length feeds ≡ length (pins cells) → row ≡ slice_range feeds (first_pin cells k) (first_pin cells (k + 1))

-- those of three parts
pub record AreRows (cells : Cells) (feeds : List (Option ℕ)) (copies : CopyNumbers) (first second third : List (Option ℕ)) : Type 0 where
  pub of_first : IsRow cells feeds copies.first first
  pub of_second : IsRow cells feeds copies.second second
  pub of_third : IsRow cells feeds copies.third third
