-- The rules of triplication as checks in a row. (Our own.)
use Rattle.std.specs.Prelude.{ℕ, Bool, true, nat_lt, Option, None, Some}
use Rattle.circuit.specs.Pins.{PinRef}
use Rattle.circuit.specs.Circuits.{Circuit}
use Rattle.answers.specs.Refusals as answers
use Rattle.answers.specs.Refusals.{Refusal}
use Rattle.design_checks.specs.Checks.{◌before◌}
use Rattle.design_checks.specs.DesignChecks.{OutputsMissing}
use Rattle.design_checks.specs.PinChecks.{TablesLoop, PinsOpen, ClocksAsData, RegistersUnclocked, PinsForeign}
use Rattle.design_checks.specs.MaskChecks.{TablesFail}
use Rattle.design_checks.specs.CopyChecks.{CopiesUnlike}
use Rattle.pin_rules.specs.Least.{FindsPin}
use Rattle.circuit_checks.specs.declared.pins.PinCheck.{PinCheck}
use Rattle.circuit_checks.specs.declared.pins.PinCheck.TheVariants.{Open, Clock, Foreign}

-- the check of pins that goes by this name, and what it refuses
abbrev pub check_of : Circuit → PinCheck → Refusal → Type 0
check_of c Open = PinsOpen c
check_of c Clock = ClocksAsData c
check_of c Foreign = PinsForeign c

abbrev pub refusal_of : PinCheck → PinRef → Refusal
refusal_of Open = answers.OpenPin
refusal_of Clock = answers.ClockAsData
refusal_of Foreign = answers.ForeignRead

-- the pin with a number is the one that the check refuses, or there is none
abbrev pub Finds : Circuit → PinCheck → Option ℕ → Type 0
Finds c check found = FindsPin c (check_of c check) (refusal_of check) found

-- 34 to 36, 31 to 36, and so on: the last checks of a circuit
abbrev pub TablesAndCopies : Circuit → Refusal → Type 0
TablesAndCopies c = TablesFail c before CopiesUnlike c before OutputsMissing c.side

abbrev pub PinsAndCopies : Circuit → Refusal → Type 0
PinsAndCopies c = PinsOpen c before ClocksAsData c before RegistersUnclocked c before PinsForeign c before TablesAndCopies c

-- 29 to 36: all but the first check of a circuit
abbrev pub RulesRefused : Circuit → Refusal → Type 0
RulesRefused c = TablesLoop c before PinsAndCopies c

-- ---- feeds

-- what feeds a pin is among so many parts
abbrev pub is_known_in : ℕ → Option ℕ → Bool
is_known_in count None = true
is_known_in count (Some k) = nat_lt k count
