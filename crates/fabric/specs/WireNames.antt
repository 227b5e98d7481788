-- The wire that a name stands for at a tile's place.
-- (After Project Trellis, where a relative name begins with a distance, as in `N1W2_X`. How the distance is
-- read, and how wide wires and those of other chips are told, is our own.)
use Rattle.std.specs.Prelude.{◌≡◌, ◌≢◌, ℕ, ℤ, pos, neg_ℤ, ◌+ℤ◌, List, [], ◌++◌, Option, Some, codes}
use Rattle.words.specs.Members.{In}
use Rattle.texts.specs.Numbers.{number_up_to}
use Rattle.records.specs.Profile.{Rules}
use Rattle.records.specs.Limits.{most_distance}
use Rattle.fabric.specs.Wires.{Wire, Local, Wide}

-- what a name stands for: a wire, or nothing, where it names a wire of another chip
pub data WireName : Type 0 where
  Named : Wire → WireName
  Ignored : WireName

-- the name begins with one of the prefixes
pub record BeginsWithOne (prefixes : List (List ℕ)) (name : List ℕ) : Type 0 where
  pub prefix : List ℕ
  pub rest : List ℕ
  pub listed : In prefixes prefix
  pub whole : name ≡ prefix ++ rest

-- The name without the chip's prefix, where it begins with it and at least one byte follows; else the name.
pub data WithoutChip (chip : Option (List ℕ)) (name : List ℕ) : List ℕ → Type 0 where
  stripped : {prefix rest : List ℕ} → chip ≡ Some prefix → name ≡ prefix ++ rest → rest ≢ [] → WithoutChip chip name rest
  kept : ((prefix rest : List ℕ) → chip ≡ Some prefix → name ≡ prefix ++ rest → rest ≡ []) → WithoutChip chip name name

-- A distance as it is written: one letter with a number lowers, another one raises, and nothing is no distance.
pub data Distance (lowers raises text : List ℕ) : ℤ → Type 0 where
  none : text ≡ [] → Distance lowers raises text (pos 0)
  lower : (digits : List ℕ) (n : ℕ) → text ≡ lowers ++ digits → number_up_to most_distance digits ≡ Some n → Distance lowers raises text (neg_ℤ (pos n))
  raise : (digits : List ℕ) (n : ℕ) → text ≡ raises ++ digits → number_up_to most_distance digits ≡ Some n → Distance lowers raises text (pos n)

-- A relative name: a distance to the north (`N`) or the south (`S`), one to the west (`W`) or the east (`E`),
-- `_`, and a base of at least one byte. North lowers the row, west lowers the column.
pub record IsRelative (name : List ℕ) (rows columns : ℤ) (base : List ℕ) : Type 0 where
  pub down : List ℕ
  pub right : List ℕ
  pub whole : name ≡ down ++ (right ++ (codes "_" ++ base))
  pub down_distance : Distance (codes "N") (codes "S") down rows
  pub right_distance : Distance (codes "W") (codes "E") right columns
  pub has_base : base ≢ []

-- The row, the column and the base of a name at a place: those of a relative name, else the place itself and
-- the whole name.
pub data IsAt (place : ℕ × ℕ) (name : List ℕ) : ℤ → ℤ → List ℕ → Type 0 where
  relative : {rows columns : ℤ} {base : List ℕ} → IsRelative name rows columns base → IsAt place name (pos place.0 +ℤ rows) (pos place.1 +ℤ columns) base
  own : ((rows columns : ℤ) (base : List ℕ) → IsRelative name rows columns base → ⊥) → IsAt place name (pos place.0) (pos place.1) name

-- What a name stands for at a place: nothing where it begins with the prefix of another chip; a wide wire
-- where its base, found without the chip's own prefix, begins with a prefix of wide wires; else a local wire.
pub data IsWireName (place : ℕ × ℕ) (name : List ℕ) (rules : Rules) : WireName → Type 0 where
  ignored : BeginsWithOne rules.other_chips name → IsWireName place name rules Ignored
  wide : {rest base : List ℕ} {row column : ℤ} → (BeginsWithOne rules.other_chips name → ⊥) → WithoutChip rules.chip_prefix name rest
      → IsAt place rest row column base → BeginsWithOne rules.wide base → IsWireName place name rules (Named (Wide base))
  local : {rest base : List ℕ} {row column : ℤ} → (BeginsWithOne rules.other_chips name → ⊥) → WithoutChip rules.chip_prefix name rest
      → IsAt place rest row column base → (BeginsWithOne rules.wide base → ⊥) → IsWireName place name rules (Named (Local row column base))
