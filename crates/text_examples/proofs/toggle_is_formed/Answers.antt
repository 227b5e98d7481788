use Rattle.mini.specs.Toggle.{toggle, toggle_side}
use Rattle.formed_examples.proofs.Texts.{side_read}
use Rattle.text_laws.proofs.NoFaults.{printed_read}
use Rattle.text_laws.proofs.SidePrinted.{side_formed}
use Rattle.text_examples.proofs.Formed.{toggle_formed}
use Rattle.text_examples.proofs.toggle_is_formed.Goals as goal

pub returns : goal.returns
returns c = record { side = side_formed toggle_side side_read; config = toggle_formed; again = printed_read toggle toggle_formed }
