-- A circuit passes its checks exactly where it is triplicated and its pins are fed from named cells alone.
use Rattle.std.proofs.Common.{◌≡◌, ℕ, List, [], ◌∷◌, inl, refl}
use Rattle.words.specs.Members.{In}
use Rattle.records.specs.Side.{Triple}
use Rattle.fabric.specs.Graph.{Graph}
use Rattle.circuit.specs.Circuits.{Circuit}
use Rattle.circuit.specs.Triplicated.{EntriesInDomain, HasOutputs, OpenPinsIgnored, CopiesAlike, IsTriplicated}
use Rattle.answers.specs.Refusals.{Refusal, NoOutputs}
use Rattle.design_checks.specs.Checks.{Passes, ◌before◌}
use Rattle.design_checks.specs.PinChecks.{SourceUnnamed, TablesLoop, PinsOpen, ClocksAsData, RegistersUnclocked, PinsForeign}
use Rattle.design_checks.specs.MaskChecks.{TablesFail}
use Rattle.design_checks.specs.CopyChecks.{CopiesUnlike}
use Rattle.design_checks.specs.DesignChecks.{OutputsMissing, none, CircuitRefused}
use Rattle.circuit_laws.proofs.Sound.{Sound}
use Rattle.check_laws.specs.Accepted.{FeedsAreModelled}
use Rattle.check_laws.proofs.Passing.{first_passes, second_passes, both_pass}
use Rattle.check_laws.proofs.RoutingRules.{HasWire}
use Rattle.check_laws.proofs.PinRules as pins
use Rattle.check_laws.proofs.MaskRules as masking
use Rattle.check_laws.proofs.CopyRules.{outputs_alike, registers_alike}
use Rattle.check_laws.proofs.TableRules.{tables_alike}
use Rattle.check_laws.proofs.Rules as rules

pub has_outputs : (c : Circuit) → Passes (OutputsMissing c.side) → HasOutputs c
has_outputs c pass = some c.side.outputs (λ e. pass NoOutputs (none e))
  where
    some : (ts : List Triple) → (ts ≡ [] → ⊥) → (t : Triple) × In ts t
    some [] h = absurd (h refl)
    some (t ∷ ts) h = (t, inl refl)

-- the copies of a triple are alike where no check of copies refuses
pub copies_alike : (c : Circuit) → Sound c → FeedsAreModelled c → OpenPinsIgnored c → Passes (CopiesUnlike c) → CopiesAlike c
copies_alike c ok modelled ignored pass = record {
  tables = tables_alike c ok modelled ignored pass;
  registers = registers_alike c ok pass;
  outputs = outputs_alike c ok pass;
}

module _ (g : Graph) (c : Circuit) where
  abbrev After : Refusal → Type 0
  After = CopiesUnlike c before OutputsMissing c.side

  abbrev Masked : Refusal → Type 0
  Masked = TablesFail c before After

  abbrev Own : Refusal → Type 0
  Own = PinsForeign c before Masked

  abbrev Clocked : Refusal → Type 0
  Clocked = RegistersUnclocked c before Own

  abbrev Data : Refusal → Type 0
  Data = ClocksAsData c before Clocked

  abbrev Open : Refusal → Type 0
  Open = PinsOpen c before Data

  abbrev Loops : Refusal → Type 0
  Loops = TablesLoop c before Open

  pub circuit_passes : Sound c → FeedsAreModelled c → IsTriplicated c → Passes (CircuitRefused g c)
  circuit_passes ok modelled tri =
      both_pass (SourceUnnamed g c) Loops (rules.modelled_pass c g modelled)
      (both_pass (TablesLoop c) Open (rules.loops_pass c tri.no_loop)
      (both_pass (PinsOpen c) Data (rules.open_passes c tri.open_pins)
      (both_pass (ClocksAsData c) Clocked (rules.clocks_pass c tri.clocks)
      (both_pass (RegistersUnclocked c) Own (rules.clocked_passes c tri.clocks)
      (both_pass (PinsForeign c) Masked (rules.own_passes c tri.own)
      (both_pass (TablesFail c) After (rules.masks_pass c tri.masks)
      (both_pass (CopiesUnlike c) (OutputsMissing c.side) (rules.copies_pass c ok tri.copies) (rules.outputs_pass c tri.has_outputs))))))))

  module _ (ok : Sound c) (entries : EntriesInDomain c) (wires : (o : ℕ) → In c.routing.outputs o → HasWire g o) (passes : Passes (CircuitRefused g c)) where
    loops_pass : Passes Loops
    loops_pass = second_passes (SourceUnnamed g c) Loops passes

    open_passes : Passes Open
    open_passes = second_passes (TablesLoop c) Open loops_pass

    data_passes : Passes Data
    data_passes = second_passes (PinsOpen c) Data open_passes

    clocked_passes : Passes Clocked
    clocked_passes = second_passes (ClocksAsData c) Clocked data_passes

    own_passes : Passes Own
    own_passes = second_passes (RegistersUnclocked c) Own clocked_passes

    masked_passes : Passes Masked
    masked_passes = second_passes (PinsForeign c) Masked own_passes

    after_passes : Passes After
    after_passes = second_passes (TablesFail c) After masked_passes

    copies_pass : Passes (CopiesUnlike c)
    copies_pass = first_passes (CopiesUnlike c) (OutputsMissing c.side) after_passes

    pub modelled : FeedsAreModelled c
    modelled = pins.modelled c g wires (first_passes (SourceUnnamed g c) Loops passes)

    ignored : OpenPinsIgnored c
    ignored = pins.open_ignored c (first_passes (PinsOpen c) Data open_passes)

    copies : CopiesAlike c
    copies = copies_alike c ok modelled ignored copies_pass

    pub triplicated : IsTriplicated c
    triplicated = record {
      entries = entries;
      open_pins = ignored;
      clocks = pins.clocks c ok (first_passes (ClocksAsData c) Clocked data_passes) (first_passes (RegistersUnclocked c) Own clocked_passes);
      own = pins.own c ok (first_passes (PinsForeign c) Masked own_passes);
      masks = masking.masks c ignored (first_passes (TablesFail c) After masked_passes);
      copies = copies;
      has_outputs = has_outputs c (second_passes (CopiesUnlike c) (OutputsMissing c.side) after_passes);
      no_loop = pins.no_loop c (first_passes (TablesLoop c) Open loops_pass);
    }
