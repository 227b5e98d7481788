-- Byte codes of wires: a byte for the kind, of a local wire the row and the column in four bytes each, the lowest
-- first, and the base. (Our own.)
use Rattle.std.specs.Prelude.{◌≡◌, ◌≤◌, ◌==◌, ℕ, ℤ, List, [], ◌∷◌, ◌++◌, length, take, drop, map, if◌then◌else◌}
use Rattle.std.specs.Int.{w32, to_le_bytes, from_le_bytes, cast_signed, cast_unsigned}
use Rattle.words.specs.Members.{In}
use Rattle.words.specs.Twice.{HasNoneTwice}
use Rattle.records.specs.Limits.{most_wires}
use Rattle.fabric.specs.Wires.{Wire, Local, Wide}
use Rattle.fabric.specs.WireNames.{WireName, Named, Ignored}
use Rattle.wire_names.specs.Kept.{HasShortBase}

unfoldable pub bytes_of : ℤ → List ℕ
bytes_of z = to_le_bytes w32 (cast_unsigned w32 z)

unfoldable pub signed_of : List ℕ → ℤ
signed_of bytes = cast_signed w32 (from_le_bytes w32 bytes)

abbrev pub code_of : Wire → List ℕ
code_of (Local row column base) = 0 ∷ (bytes_of row ++ (bytes_of column ++ base))
code_of (Wide base) = 1 ∷ base

abbrev pub wire_of : List ℕ → Wire
wire_of [] = Wide []
wire_of (kind ∷ rest) =
    if kind == 1 then Wide rest
    else Local (signed_of (take 4 rest)) (signed_of (take 4 (drop 4 rest))) (drop 4 (drop 4 rest))

-- a list of bytes is the code of a wire
pub record IsCodeOf (wire : Wire) (code : List ℕ) : Type 0 where
  pub coded : code ≡ code_of wire
  pub decoded : wire_of code ≡ wire

-- a list of bytes is the code of a wire that is named
abbrev pub IsCodeOfName : WireName → List ℕ → Type 0
IsCodeOfName (Named wire) code = IsCodeOf wire code
IsCodeOfName Ignored code = ⊥

-- a code of a wire that is kept
pub record IsKept (code : List ℕ) : Type 0 where
  pub coded : code ≡ code_of (wire_of code)
  pub short : HasShortBase (wire_of code)

-- the codes of wires that are kept under their places
pub record AreKept (codes : List (List ℕ)) : Type 0 where
  pub kept : (code : List ℕ) → In codes code → IsKept code
  pub once : HasNoneTwice (map wire_of codes)
  pub few : length codes ≤ most_wires
