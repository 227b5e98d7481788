use Rattle.std.proofs.Common.{inl, inr, refl, sym, subst, codes}
use Rattle.records.specs.Side.{D0}
use Rattle.circuit.specs.Parts.{Source, Table}
use Rattle.circuit.specs.Pins.{Pin, pin_at}
use Rattle.circuit.specs.Triplicated.{ReadPart, FedByClock}
use Rattle.circuit_laws.proofs.Sound.{to_pin}
use Rattle.circuit_examples.proofs.Feeding.{feeds_is}
use Rattle.circuit_examples.proofs.Rules.{dry, open_pins}
use Rattle.circuit.specs.Parts.{register_source}
use Rattle.circuit.specs.Cells.{InputWire, InputZero, InputOne, RegisterCell}
use Rattle.std.specs.Prelude.{false}
use Rattle.mini.specs.ToggleCells.{slice_at, toggle_cells, wire_at}
use Rattle.design_checks.specs.PinChecks.{IsUnclocked, RegistersUnclocked, unclocked}
use Rattle.check_examples.proofs.Circuits.{g, unclocked_circuit, unclocked_sound, unclocked_text}
use Rattle.answers.specs.Refusals.{NotClocked}
use Rattle.check_examples.specs.Refused as refused
use Rattle.check_examples.proofs.Whole.{refused_in_circuit, refused_at_clocks, named_pass, loops_pass}
use Rattle.check_examples.proofs.Parts.{least_unclocked}
use Rattle.check_examples.proofs.Devices.{toggle_graph}
use Rattle.check_examples.proofs.missing_clock_is_refused.Goals as goal

abbrev cell : RegisterCell
cell = record { input = InputWire (wire_at g 1 1 (codes "F")); enable = InputOne; reset = InputZero; set = false; clock = InputWire (wire_at g 1 1 (codes "CK")); out = wire_at g 1 1 (codes "Q") }

abbrev register : Source
register = register_source (slice_at g (codes "a0") D0 1) 0 cell

-- pin B of a0 reads its register
abbrev reader : Pin
reader = pin_at (record { cell = codes "a0"; part = Table 0 }) 1 (wire_at g 1 1 (codes "B"))

abbrev clock : Pin
clock = pin_at register.part 3 (wire_at g 1 1 (codes "CK"))

is_read : ReadPart unclocked_circuit register
is_read = record {
  listed = inr (inl refl);
  read = (reader, to_pin unclocked_circuit register reader (inr (inl refl)) (feeds_is unclocked_circuit unclocked_sound.formed.outputs.listed register reader.wire (inr (inl refl)) refl));
}

is_unclocked : IsUnclocked unclocked_circuit register.part
is_unclocked = record {
  source = register;
  register = cell;
  is = refl;
  read = is_read;
  is_register = refl;
  unclocked = λ p i f. elim i [
    | inl e ↦ dry unclocked_circuit unclocked_sound clock refl (subst (FedByClock unclocked_circuit) (sym e) f)
    | inr j ↦ absurd j
  ];
}

registers_unclocked : RegistersUnclocked unclocked_circuit (NotClocked register.part)
registers_unclocked = unclocked register.part (least_unclocked unclocked_circuit register.part is_unclocked refl)

pub returns : goal.returns
returns c = record {
  cells = refl;
  refused = registers_unclocked;
  first = refused_in_circuit (refused.on_toggle refused.unclocked) g (toggle_graph refused.unclocked) (toggle_cells g) unclocked_text refl (NotClocked register.part)
      (refused_at_clocks unclocked_circuit g (named_pass unclocked_circuit g refl) (loops_pass unclocked_circuit refl) (open_pins unclocked_circuit (record { parts = refl; pads = refl })) refl (NotClocked register.part) registers_unclocked);
}
