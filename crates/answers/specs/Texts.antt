-- The texts that the program prints, as concatenations; each line ends with one line feed. (Our own.)
use Rattle.std.specs.Prelude.{ℕ, List, [], ◌∷◌, ◌++◌, codes}
use Rattle.std.specs.Fmt.{decimal}
use Rattle.texts.specs.Printing.{spaced, line_feed}
use Rattle.fabric.specs.Wires.{wire_text}
use Rattle.answers.specs.Parts.{part_text, pin_text}
use Rattle.answers.specs.Refusals.{Refusal, Missing, TooLong, BadLine, OutsideBlock, NoDevice, TooLarge, NotJson, BadShape, DuplicateName, UnknownName, Unpaired, WrongDomain, OverlapShape, UnknownTile, NoPlace, UnknownSink, UnknownSource, UnknownSetting, UnknownValue, WordLength, OutsideTile, ArcDiffers, Contested, UnknownSite, ShapeDiffers, Unmodelled, UnnamedPad, UnnamedSource, Loop, OpenPin, ClockAsData, NotClocked, ForeignRead, NotMasking, CopiesDiffer, NoOutputs, refusal_number, refusal_name}

-- the arguments of a refusal as printed
abbrev pub refusal_arguments : Refusal → List (List ℕ)
refusal_arguments (Missing file) = file ∷ []
refusal_arguments (TooLong file) = file ∷ []
refusal_arguments (BadLine file line) = file ∷ decimal line ∷ []
refusal_arguments (OutsideBlock file line) = file ∷ decimal line ∷ []
refusal_arguments (NoDevice file) = file ∷ []
refusal_arguments (TooLarge file limit) = file ∷ limit ∷ []
refusal_arguments (NotJson file) = file ∷ []
refusal_arguments (BadShape file key) = file ∷ key ∷ []
refusal_arguments (DuplicateName cell) = cell ∷ []
refusal_arguments (UnknownName cell) = cell ∷ []
refusal_arguments (Unpaired cell) = cell ∷ []
refusal_arguments (WrongDomain cell) = cell ∷ []
refusal_arguments (OverlapShape wire) = wire_text wire ∷ []
refusal_arguments (UnknownTile line) = decimal line ∷ []
refusal_arguments (NoPlace line) = decimal line ∷ []
refusal_arguments (UnknownSink line) = decimal line ∷ []
refusal_arguments (UnknownSource line) = decimal line ∷ []
refusal_arguments (UnknownSetting line) = decimal line ∷ []
refusal_arguments (UnknownValue line) = decimal line ∷ []
refusal_arguments (WordLength line) = decimal line ∷ []
refusal_arguments (OutsideTile line) = decimal line ∷ []
refusal_arguments (ArcDiffers tile sink) = tile ∷ sink ∷ []
refusal_arguments (Contested wire first second) = wire_text wire ∷ wire_text first ∷ wire_text second ∷ []
refusal_arguments (UnknownSite cell) = cell ∷ []
refusal_arguments (ShapeDiffers cell) = cell ∷ []
refusal_arguments (Unmodelled cell setting value) = cell ∷ setting ∷ value ∷ []
refusal_arguments (UnnamedPad tile kind) = tile ∷ kind ∷ []
refusal_arguments (UnnamedSource pin wire) = part_text pin.part ∷ pin_text pin ∷ wire_text wire ∷ []
refusal_arguments (Loop part) = part_text part ∷ []
refusal_arguments (OpenPin pin) = part_text pin.part ∷ pin_text pin ∷ []
refusal_arguments (ClockAsData pin) = part_text pin.part ∷ pin_text pin ∷ []
refusal_arguments (NotClocked part) = part_text part ∷ []
refusal_arguments (ForeignRead pin) = part_text pin.part ∷ pin_text pin ∷ []
refusal_arguments (NotMasking part address) = part_text part ∷ decimal address ∷ []
refusal_arguments (CopiesDiffer part what) = part_text part ∷ what ∷ []
refusal_arguments NoOutputs = []

-- `refused NUMBER NAME ARGS`
abbrev pub refused_text : Refusal → List ℕ
refused_text r = codes "refused" ++ spaced (decimal (refusal_number r) ∷ refusal_name r ∷ refusal_arguments r) ++ line_feed

-- `usage K`
abbrev pub usage_text : ℕ → List ℕ
usage_text k = codes "usage" ++ spaced (decimal k ∷ []) ++ line_feed

-- `read fault NAME`
abbrev pub read_fault_text : List ℕ → List ℕ
read_fault_text name = codes "read fault" ++ spaced (name ∷ []) ++ line_feed
