-- Which parts are read, by the list of the feeds of pins. (Our own.)
use Rattle.std.specs.Prelude.{◌≡◌, ◌↔◌, ℕ, ◌<◌, Bool, true, false, List, [], ◌∷◌, length, get_or, slice_set, Option, None, Some}
use Rattle.words.specs.Members.{In}
use Rattle.circuit.specs.Cells.{Cells}
use Rattle.circuit.specs.Parts.{sources}

-- the flags of parts, with the parts raised that feed pins
abbrev pub read_with : List Bool → List (Option ℕ) → List Bool
read_with flags [] = flags
read_with flags (None ∷ feeds) = read_with flags feeds
read_with flags (Some k ∷ feeds) = read_with (slice_set flags k true) feeds

-- The list has for each part a flag, raised exactly where it feeds a pin.
pub record AreReadParts (cells : Cells) (feeds : List (Option ℕ)) (read : List Bool) : Type 0 where
  pub long : length read ≡ length (sources cells)
  pub flags : (k : ℕ) → k < length (sources cells) → (get_or read k false ≡ true) ↔ In feeds (Some k)
