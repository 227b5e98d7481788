use Rattle.mini.specs.Toggle.{toggle_side}
use Rattle.formed_examples.proofs.Texts.{side_read}
use Rattle.text_laws.proofs.SidePrinted.{side_formed, side_read_back}
use Rattle.text_examples.proofs.printed_toggle.Goals as goal

pub returns : goal.returns
returns c = side_read_back toggle_side (side_formed toggle_side side_read)
