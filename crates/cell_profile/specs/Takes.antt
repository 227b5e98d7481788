-- What the values of the program's enums stand for.
use Rattle.std.specs.Prelude.{ℕ, List, Option}
use Rattle.records.specs.Profile as profile
use Rattle.json_forms.specs.Choices.{input_take, set_take, clock_take, mode_take}
use Rattle.cell_profile.specs.declared.takes.Take.{Take}
use Rattle.cell_profile.specs.declared.takes.Take.TheVariants.{Wire, NotWire, Zero, One, Off, In, Out}
use Rattle.cell_profile.specs.declared.takes.Purpose.{Purpose}
use Rattle.cell_profile.specs.declared.takes.Purpose.TheVariants.{Input, Set, Clock, Mode}

abbrev pub take_of : Take → profile.Take
take_of (Wire name) = profile.TakeWire name
take_of (NotWire name) = profile.TakeNotWire name
take_of Zero = profile.TakeZero
take_of One = profile.TakeOne
take_of Off = profile.TakeOff
take_of In = profile.TakeIn
take_of Out = profile.TakeOut

-- what a text makes a cell take, in a choice of this purpose
abbrev pub take_for : Purpose → List ℕ → Option profile.Take
take_for Input = input_take
take_for Set = set_take
take_for Clock = clock_take
take_for Mode = mode_take
