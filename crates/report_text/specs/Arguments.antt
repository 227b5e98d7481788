-- The texts of arguments.
use Rattle.std.specs.Prelude.{ℕ, List, [], ◌∷◌}
use Rattle.std.specs.Fmt.{decimal}
use Rattle.records.specs.Limits.{limit_name}
use Rattle.rr_ids.specs.Limits.{limit_of}
use Rattle.fabric.specs.Wires.{wire_text}
use Rattle.answers.specs.Parts.{part_text, pin_text}
use Rattle.report_text.specs.Names.{wire_view, part_view, pin_view}
use Rattle.report_text.specs.declared.arguments.Arguments.{Arguments}
use Rattle.report_text.specs.declared.arguments.Arguments.TheVariants.{Word, Number, WordNumber, WordLimit, Words, OneWire, Wires, ThreeWords, PinWire, Part, Pin, PartNumber, PartWord}
use Rattle.report_text.specs.declared.arguments.Arguments.TheVariants as arguments

abbrev pub argument_texts : Arguments → List (List ℕ)
argument_texts arguments.None = []
argument_texts (Word f0) = f0.now ∷ []
argument_texts (Number n0) = decimal n0 ∷ []
argument_texts (WordNumber f0 n1) = f0.now ∷ decimal n1 ∷ []
argument_texts (WordLimit f0 l1) = f0.now ∷ limit_name (limit_of l1) ∷ []
argument_texts (Words f0 f1) = f0.now ∷ f1.now ∷ []
argument_texts (OneWire w0) = wire_text (wire_view w0) ∷ []
argument_texts (Wires w0 w1 w2) = wire_text (wire_view w0) ∷ wire_text (wire_view w1) ∷ wire_text (wire_view w2) ∷ []
argument_texts (ThreeWords f0 f1 f2) = f0.now ∷ f1.now ∷ f2.now ∷ []
argument_texts (PinWire p0 w1) = part_text (pin_view p0).part ∷ pin_text (pin_view p0) ∷ wire_text (wire_view w1) ∷ []
argument_texts (Part r0) = part_text (part_view r0) ∷ []
argument_texts (Pin p0) = part_text (pin_view p0).part ∷ pin_text (pin_view p0) ∷ []
argument_texts (PartNumber r0 n1) = part_text (part_view r0) ∷ decimal n1 ∷ []
argument_texts (PartWord r0 f1) = part_text (part_view r0) ∷ f1.now ∷ []
