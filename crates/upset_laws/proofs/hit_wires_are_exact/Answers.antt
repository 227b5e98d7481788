use Rattle.upset_laws.proofs.PlainDomains.{hits_law}
use Rattle.upset_laws.proofs.hit_wires_are_exact.Goals as goal

pub returns : goal.returns
returns c = hits_law
