-- What the program's faults of lines stand for, and of faults the first by line.
use Rattle.std.specs.Prelude.{ℕ, List, [], ◌∷◌, Option, None, Some}
use Rattle.answers.specs.Refusals as answers
use Rattle.design_checks.specs.LineChecks.{LineFault, lower_line, lowest_line}
use Rattle.text_image.specs.declared.faults.LineError.{LineError}
use Rattle.text_image.specs.declared.faults.LineError.TheVariants.{UnknownTile, NoPlace, UnknownSink, UnknownSource, UnknownSetting, UnknownValue, WordLength, OutsideTile}
use Rattle.text_image.specs.declared.faults.TextFault.{TextFault}

abbrev pub refusal_of : LineError → ℕ → answers.Refusal
refusal_of UnknownTile line = answers.UnknownTile line
refusal_of NoPlace line = answers.NoPlace line
refusal_of UnknownSink line = answers.UnknownSink line
refusal_of UnknownSource line = answers.UnknownSource line
refusal_of UnknownSetting line = answers.UnknownSetting line
refusal_of UnknownValue line = answers.UnknownValue line
refusal_of WordLength line = answers.WordLength line
refusal_of OutsideTile line = answers.OutsideTile line

abbrev pub fault_view : TextFault → LineFault
fault_view fault = record { line = fault.line; refusal = refusal_of fault.error fault.line }

-- of two that may be there the one of the lower line, and of equal lines the first
abbrev pub first_of : Option LineFault → Option LineFault → Option LineFault
first_of None other = other
first_of (Some fault) other = Some (lower_line fault other)

-- the first by line among what is found so far and the faults of elements that are left
abbrev pub first_behind : {X : Type 0} → (X → List LineFault) → Option LineFault → List X → Option LineFault
first_behind faults found [] = found
first_behind faults found (x ∷ xs) = first_behind faults (first_of found (lowest_line (faults x))) xs
