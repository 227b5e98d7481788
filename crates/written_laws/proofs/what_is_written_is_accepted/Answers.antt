use Rattle.written_laws.proofs.Later.{later_accepts}
use Rattle.written_laws.proofs.what_is_written_is_accepted.Goals as goal

pub returns : goal.returns
returns c = λ files later inputs again a text side. later_accepts files later inputs again a.design a.graph a.cells text side a.is
