-- What copies of a table give where their feeders have bits. (Our own.)
use Rattle.std.specs.Prelude.{◌≡◌, ℕ, ◌^◌, ◌<◌, Bool, false, List, [], ◌∷◌, ◌++◌, codes, get_or, if◌then◌else◌, Option, None, Some}
use Rattle.std.specs.Global.{Vec}
use Rattle.words.specs.Members.{In}
use Rattle.circuit.specs.Worlds.{address}
use Rattle.design_checks.specs.CopyChecks.{digits_or_dash}
use Rattle.table_masks.specs.Masking.{is_set}
use Rattle.table_copies.specs.declared.copies.Pins.{Pins}
use Rattle.table_copies.specs.declared.copies.Tables.{Tables}
use Rattle.table_copies.specs.declared.copies.TableCopy.{TableCopy}
use Rattle.table_copies.specs.declared.copies.TableCopy.TheVariants as copy
use Rattle.table_copies.specs.declared.outputs.Given.{Given}
use Rattle.table_copies.specs.declared.outputs.Given.TheVariants as given
use Rattle.table_copies.specs.Digits.{digits_of}

-- the bit of a pin; one that nothing feeds has 0
abbrev pub bit_in : List Bool → Option ℕ → Bool
bit_in digits None = false
bit_in digits (Some i) = get_or digits i false

abbrev pub bits_at : List Bool → Pins → List Bool
bits_at digits pins = bit_in digits pins.first ∷ bit_in digits pins.second ∷ bit_in digits pins.third ∷ bit_in digits pins.fourth ∷ []

abbrev pub text_of : Given → List ℕ
text_of given.Zero = codes "0"
text_of given.One = codes "1"
text_of given.Unread = codes "-"

-- what a copy gives, as a digit; `-` where it isn't read
abbrev pub given_by : List Bool → TableCopy → List ℕ
given_by digits copy.Unread = codes "-"
given_by digits (copy.Read word pins) = if is_set word (address (bits_at digits pins)) then codes "1" else codes "0"

abbrev pub texts_at : List Bool → Tables → List (List ℕ)
texts_at digits tables = given_by digits tables.first ∷ given_by digits tables.second ∷ given_by digits tables.third ∷ []

abbrev pub output_text : List Bool → Tables → List ℕ
output_text digits tables = given_by digits tables.first ++ given_by digits tables.second ++ given_by digits tables.third

-- one gives 0 and another one 1
abbrev pub DifferAt : List Bool → Tables → Type 0
DifferAt digits tables = In (texts_at digits tables) (codes "0") × In (texts_at digits tables) (codes "1")

-- the least number at whose digits they differ, or none where they differ at none
abbrev pub IsLeastDiffering : ℕ → Tables → Option ℕ → Type 0
IsLeastDiffering count tables None = (m : ℕ) → m < 2 ^ count → DifferAt (digits_of count m) tables → ⊥
IsLeastDiffering count tables (Some n) = (n < 2 ^ count) × DifferAt (digits_of count n) tables × ((m : ℕ) → m < n → DifferAt (digits_of count m) tables → ⊥)

-- the text of those digits and of the outputs there
abbrev pub TellsOutputs : ℕ → Tables → Option (Vec ℕ) → Type 0
TellsOutputs count tables None = IsLeastDiffering count tables None
TellsOutputs count tables (Some text) =
    (n : ℕ) × (IsLeastDiffering count tables (Some n) × (text.items ≡ digits_or_dash (digits_of count n) ++ codes " " ++ output_text (digits_of count n) tables))
