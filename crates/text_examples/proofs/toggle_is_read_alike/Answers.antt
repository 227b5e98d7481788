use Rattle.std.proofs.Common.{refl, sym}
use Rattle.fabric_laws.specs.PlainGraph.{graph_of}
use Rattle.mini.specs.MiniA.{mini_a}
use Rattle.mini.specs.Toggle.{toggle}
use Rattle.text_laws.proofs.NoFaults.{printed_same, printed_lines}
use Rattle.text_laws.proofs.SameFaults.{not_refused}
use Rattle.text_laws.proofs.SameWrites.{same_image}
use Rattle.text_examples.proofs.Formed.{toggle_formed}
use Rattle.text_examples.proofs.toggle_is_read_alike.Goals as goal

pub returns-clause-image : goal.returns-clause-image
returns-clause-image c d read = sym (same_image (graph_of mini_a) toggle d (printed_same toggle d toggle_formed read))

pub returns-clause-lines : goal.returns-clause-lines
returns-clause-lines c d read = not_refused (graph_of mini_a) toggle d (printed_same toggle d toggle_formed read) (printed_lines toggle d toggle_formed read) refl
