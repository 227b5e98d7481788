-- What is proved of the checks of a circuit and of its routing, check by check: of any circuit, also one that no file
-- describes, as the circuits that a router makes.
use Rattle.std.specs.Prelude.{◌≡◌, ℕ, Some, slice_get}
use Rattle.words.specs.Members.{In}
use Rattle.patterns.specs.Bits.{Bits}
use Rattle.records.specs.Config.{Config}
use Rattle.links.specs.Links.{IsClean}
use Rattle.fabric.specs.Wires.{Wire}
use Rattle.fabric.specs.Device.{Device}
use Rattle.fabric.specs.Graph.{Graph}
use Rattle.fabric.specs.GraphOf.{IsGraph}
use Rattle.fabric.specs.Links.{routing_of}
use Rattle.fabric.specs.Agree.{ArcsAgree}
use Rattle.circuit.specs.Circuits.{Circuit}
use Rattle.circuit.specs.WellFormed.{IsWellFormed}
use Rattle.circuit.specs.Triplicated.{EntriesInDomain, OpenPinsIgnored, ClocksAreClocks, ReadsOwnDomain, TablesMask, CopiesAlike, HasOutputs, NoTableLoop, IsTriplicated}
use Rattle.design_checks.specs.Checks.{◌before◌}
use Rattle.design_checks.specs.RoutingChecks.{ArcsDiffer, AreContested}
use Rattle.design_checks.specs.PinChecks.{SourceUnnamed, TablesLoop, PinsOpen, ClocksAsData, RegistersUnclocked, PinsForeign}
use Rattle.design_checks.specs.MaskChecks.{TablesFail}
use Rattle.design_checks.specs.CopyChecks.{CopiesUnlike}
use Rattle.design_checks.specs.DesignChecks.{OutputsMissing, CircuitRefused}
use Rattle.check_laws.specs.Accepted.{FeedsAreModelled}
use Rattle.rule_laws.specs.Exactly.{PassesWhere}

-- the number of each cell output is that of a wire of the graph
abbrev pub OutputsAreWires : Graph → Circuit → Type 0
OutputsAreWires g c = (o : ℕ) → In c.routing.outputs o → (wire : Wire) × (slice_get g.wires o ≡ Some wire)

-- The arcs of a text are those that its image chooses, and no wire is contested, exactly where these two checks pass.
abbrev pub RoutingIsChecked : Type 0
RoutingIsChecked = (device : Device) (g : Graph) → IsGraph device g → (image : Bits)
    → ((config : Config) → PassesWhere (ArcsDiffer g image config) (ArcsAgree g image config))
    × PassesWhere (AreContested g image) (IsClean (routing_of g image))

-- The feed of each pin is a modelled output exactly where no source is refused, and no table reaches itself exactly where no
-- loop is.
abbrev pub SourcesAreChecked : Type 0
SourcesAreChecked = (g : Graph) (c : Circuit) → OutputsAreWires g c → PassesWhere (SourceUnnamed g c) (FeedsAreModelled c)

abbrev pub LoopsAreChecked : Type 0
LoopsAreChecked = (c : Circuit) → PassesWhere (TablesLoop c) (NoTableLoop c)

-- The rules of triplication that speak of pins: open ones, clocks, domains.
abbrev pub OpenPinsAreChecked : Type 0
OpenPinsAreChecked = (c : Circuit) → PassesWhere (PinsOpen c) (OpenPinsIgnored c)

abbrev pub ClocksAreChecked : Type 0
ClocksAreChecked = (c : Circuit) → IsClean c.routing → IsWellFormed c → PassesWhere (ClocksAsData c before RegistersUnclocked c) (ClocksAreClocks c)

abbrev pub DomainsAreChecked : Type 0
DomainsAreChecked = (c : Circuit) → IsClean c.routing → IsWellFormed c → PassesWhere (PinsForeign c) (ReadsOwnDomain c)

-- The rules that speak of tables and copies. What a table gives for open pins must not matter, since the checks take them
-- as 0.
abbrev pub MasksAreChecked : Type 0
MasksAreChecked = (c : Circuit) → OpenPinsIgnored c → PassesWhere (TablesFail c) (TablesMask c)

abbrev pub CopiesAreChecked : Type 0
CopiesAreChecked = (c : Circuit) → IsClean c.routing → IsWellFormed c → FeedsAreModelled c → OpenPinsIgnored c → PassesWhere (CopiesUnlike c) (CopiesAlike c)

abbrev pub OutputsAreChecked : Type 0
OutputsAreChecked = (c : Circuit) → PassesWhere (OutputsMissing c.side) (HasOutputs c)

-- A circuit whose entries lie in their domains is triplicated, with modelled feeds, exactly where it passes all checks.
abbrev pub CircuitsAreChecked : Type 0
CircuitsAreChecked = (g : Graph) (c : Circuit) → IsClean c.routing → IsWellFormed c → EntriesInDomain c → OutputsAreWires g c
    → PassesWhere (CircuitRefused g c) (FeedsAreModelled c × IsTriplicated c)
