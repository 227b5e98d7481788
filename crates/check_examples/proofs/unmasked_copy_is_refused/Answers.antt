use Rattle.std.proofs.Common.{ℕ, refl}
use Rattle.answers.specs.Refusals.{NotMasking}
use Rattle.circuit_examples.proofs.Rules.{open_pins, clocks, own}
use Rattle.design_checks.specs.MaskChecks.{FailsAt, TablesFail, fails}
use Rattle.check_examples.specs.Refused.{on_toggle, unmasked, cells_with_word}
use Rattle.check_examples.proofs.Circuits.{g, unmasked_circuit, unmasked_sound, unmasked_text}
use Rattle.check_examples.proofs.Parts.{first_of_parts}
use Rattle.check_examples.proofs.Masking.{table, least_address}
use Rattle.check_examples.proofs.Whole.{refused_in_circuit, refused_at_tables, named_pass, loops_pass}
use Rattle.check_examples.proofs.Devices.{toggle_graph}
use Rattle.check_examples.proofs.unmasked_copy_is_refused.Goals as goal

table_fails : TablesFail unmasked_circuit (NotMasking table.part 3)
table_fails = fails table.part 3
    (first_of_parts unmasked_circuit (λ p. (n : ℕ) × FailsAt unmasked_circuit p n) (λ p h. (h.1.source, (h.1.read.listed, h.1.is))) table.part (3, least_address.has) refl) least_address

pub returns : goal.returns
returns c = record {
  cells = refl;
  refused = table_fails;
  first = refused_in_circuit (on_toggle unmasked) g (toggle_graph unmasked) (cells_with_word g 0x1F1F) unmasked_text refl (NotMasking table.part 3)
      (refused_at_tables unmasked_circuit g (named_pass unmasked_circuit g refl) (loops_pass unmasked_circuit refl) (open_pins unmasked_circuit (record { parts = refl; pads = refl }))
      (clocks unmasked_circuit unmasked_sound (record { parts = refl; pads = refl; clocked = refl })) (own unmasked_circuit unmasked_sound (record { parts = refl; pads = refl })) (NotMasking table.part 3) table_fails);
}
