-- The choices of a profile: what a value of a setting makes a cell take. (Our own.)
use Rattle.std.specs.Prelude.{ℕ, Bool, true, false, List, [], ◌∷◌, length, Option, Some, None, option_map, is_some, nat_lt, if◌then◌else◌, ◌==◌, codes}
use Rattle.std.specs.Str.{bytes_eq}
use Rattle.serde_json.specs.Data.{Data}
use Rattle.serde_json.specs.Find.{as_str}
use Rattle.records.specs.Profile.{Take, TakeWire, TakeNotWire, TakeZero, TakeOne, TakeOff, TakeIn, TakeOut, Case, Choice}
use Rattle.json_forms.specs.Options.{◌>>=◌}
use Rattle.json_forms.specs.Each.{each}
use Rattle.json_forms.specs.Values.{list_in, if_name}
use Rattle.json_forms.specs.Parts.{pair_in, name_or_empty_in}

-- what an input of a register takes: `0`, `1`, `=WIRE` or `!WIRE`, where WIRE is a name
abbrev pub input_take : List ℕ → Option Take
input_take [] = None
input_take (b ∷ rest) =
    if b == 61 then option_map TakeWire (if_name rest)
    else if b == 33 then option_map TakeNotWire (if_name rest)
    else if bytes_eq (b ∷ rest) (codes "0") then Some TakeZero
    else if bytes_eq (b ∷ rest) (codes "1") then Some TakeOne
    else None

abbrev pub is_constant : Take → Bool
is_constant TakeZero = true
is_constant TakeOne = true
is_constant _ = false

-- what the `set` of a register takes: `0` or `1`
abbrev pub set_take : List ℕ → Option Take
set_take text = input_take text >>= λ take. if is_constant take then Some take else None

abbrev pub is_clock : Take → Bool
is_clock TakeZero = true
is_clock (TakeWire _) = true
is_clock _ = false

-- what the clock of a register takes: `0` or `=WIRE`
abbrev pub clock_take : List ℕ → Option Take
clock_take text = input_take text >>= λ take. if is_clock take then Some take else None

-- the mode of a pad: `off`, `in` or `out`
abbrev pub mode_take : List ℕ → Option Take
mode_take text =
    if bytes_eq text (codes "off") then Some TakeOff
    else if bytes_eq text (codes "in") then Some TakeIn
    else if bytes_eq text (codes "out") then Some TakeOut
    else None

-- the value of a case: a name where the choice has a setting, and else empty
abbrev pub case_value : Bool → List ℕ → Option (Option (List ℕ))
case_value true text = option_map Some (if_name text)
case_value false text = if length text == 0 then Some None else None

-- A case `[VALUE, TAKE]`.
abbrev pub case_in : Bool → (List ℕ → Option Take) → Data → Option Case
case_in has_setting take_of d = do
  pair ← pair_in d
  value_text ← as_str pair.0
  value ← case_value has_setting value_text
  take_text ← as_str pair.1
  take ← take_of take_text
  Some (record { value = value; take = take })

-- one or more cases where there is a setting, and else one
abbrev pub is_case_count : Bool → ℕ → Bool
is_case_count true count = nat_lt 0 count
is_case_count false count = count == 1

-- A choice `[SETTING, CASES]`.
unfoldable pub choice_in : (List ℕ → Option Take) → Data → Option Choice
choice_in take_of d = do
  pair ← pair_in d
  setting ← name_or_empty_in pair.0
  elements ← list_in pair.1
  cases ← each (case_in (is_some setting) take_of) elements
  if is_case_count (is_some setting) (length cases) then Some (record { setting = setting; cases = cases }) else None
