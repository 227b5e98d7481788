-- Each check passes exactly where its rule holds.
use Rattle.patterns.specs.Bits.{Bits}
use Rattle.records.specs.Config.{Config}
use Rattle.links.specs.Links.{IsClean}
use Rattle.fabric.specs.Device.{Device}
use Rattle.fabric.specs.Graph.{Graph}
use Rattle.fabric.specs.GraphOf.{IsGraph}
use Rattle.fabric.specs.Links.{routing_of}
use Rattle.fabric.specs.Agree.{ArcsAgree}
use Rattle.circuit.specs.Circuits.{Circuit}
use Rattle.circuit.specs.WellFormed.{IsWellFormed}
use Rattle.circuit.specs.Triplicated.{EntriesInDomain, OpenPinsIgnored, ClocksAreClocks, ReadsOwnDomain, TablesMask, CopiesAlike, HasOutputs, NoTableLoop, IsTriplicated}
use Rattle.design_checks.specs.Checks.{◌before◌}
use Rattle.design_checks.specs.RoutingChecks.{ArcsDiffer, AreContested}
use Rattle.design_checks.specs.PinChecks.{SourceUnnamed, TablesLoop, PinsOpen, ClocksAsData, RegistersUnclocked, PinsForeign}
use Rattle.design_checks.specs.MaskChecks.{TablesFail}
use Rattle.design_checks.specs.CopyChecks.{CopiesUnlike}
use Rattle.design_checks.specs.DesignChecks.{OutputsMissing, CircuitRefused}
use Rattle.circuit_laws.proofs.Sound.{Sound}
use Rattle.check_laws.specs.Accepted.{FeedsAreModelled}
use Rattle.check_laws.proofs.Passing.{first_passes, second_passes, both_pass}
use Rattle.check_laws.proofs.RoutingRules as routing
use Rattle.check_laws.proofs.PinRules as pins
use Rattle.check_laws.proofs.MaskRules as masking
use Rattle.check_laws.proofs.Rules as rules
use Rattle.check_laws.proofs.Triplicating as whole
use Rattle.rule_laws.specs.Exactly.{PassesWhere}
use Rattle.rule_laws.specs.Statements.{OutputsAreWires}

sound : (c : Circuit) → IsClean c.routing → IsWellFormed c → Sound c
sound c clean formed = record { clean = clean; formed = formed }

pub routing_is : (device : Device) (g : Graph) → IsGraph device g → (image : Bits)
    → ((config : Config) → PassesWhere (ArcsDiffer g image config) (ArcsAgree g image config)) × PassesWhere (AreContested g image) (IsClean (routing_of g image))
routing_is device g is image = (
  (λ config. record { holds = routing.agree device g is image config; passes = rules.arcs_pass g image config }),
  record { holds = routing.clean device g is image; passes = rules.clean_passes g image },
)

pub sources_are : (g : Graph) (c : Circuit) → OutputsAreWires g c → PassesWhere (SourceUnnamed g c) (FeedsAreModelled c)
sources_are g c wires = record { holds = pins.modelled c g wires; passes = rules.modelled_pass c g }

pub loops_are : (c : Circuit) → PassesWhere (TablesLoop c) (NoTableLoop c)
loops_are c = record { holds = pins.no_loop c; passes = rules.loops_pass c }

pub open_pins_are : (c : Circuit) → PassesWhere (PinsOpen c) (OpenPinsIgnored c)
open_pins_are c = record { holds = pins.open_ignored c; passes = rules.open_passes c }

pub clocks_are : (c : Circuit) → IsClean c.routing → IsWellFormed c → PassesWhere (ClocksAsData c before RegistersUnclocked c) (ClocksAreClocks c)
clocks_are c clean formed = record {
  holds = λ pass. pins.clocks c (sound c clean formed) (first_passes (ClocksAsData c) (RegistersUnclocked c) pass) (second_passes (ClocksAsData c) (RegistersUnclocked c) pass);
  passes = λ h. both_pass (ClocksAsData c) (RegistersUnclocked c) (rules.clocks_pass c h) (rules.clocked_passes c h);
}

pub domains_are : (c : Circuit) → IsClean c.routing → IsWellFormed c → PassesWhere (PinsForeign c) (ReadsOwnDomain c)
domains_are c clean formed = record { holds = pins.own c (sound c clean formed); passes = rules.own_passes c }

pub masks_are : (c : Circuit) → OpenPinsIgnored c → PassesWhere (TablesFail c) (TablesMask c)
masks_are c ignored = record { holds = masking.masks c ignored; passes = rules.masks_pass c }

pub copies_are : (c : Circuit) → IsClean c.routing → IsWellFormed c → FeedsAreModelled c → OpenPinsIgnored c → PassesWhere (CopiesUnlike c) (CopiesAlike c)
copies_are c clean formed modelled ignored = record { holds = whole.copies_alike c (sound c clean formed) modelled ignored; passes = rules.copies_pass c (sound c clean formed) }

pub outputs_are : (c : Circuit) → PassesWhere (OutputsMissing c.side) (HasOutputs c)
outputs_are c = record { holds = whole.has_outputs c; passes = rules.outputs_pass c }

pub circuits_are : (g : Graph) (c : Circuit) → IsClean c.routing → IsWellFormed c → EntriesInDomain c → OutputsAreWires g c
    → PassesWhere (CircuitRefused g c) (FeedsAreModelled c × IsTriplicated c)
circuits_are g c clean formed entries wires =
    let ok = sound c clean formed in record {
      holds = λ pass. (whole.modelled g c ok entries wires pass, whole.triplicated g c ok entries wires pass);
      passes = λ h. whole.circuit_passes g c ok h.0 h.1;
    }
