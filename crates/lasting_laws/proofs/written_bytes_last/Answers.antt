use Rattle.written_laws.proofs.Written.{accepted_may_be_hardened}
use Rattle.lasting_laws.proofs.Written.{bytes_last, bytes_say}
use Rattle.lasting_laws.proofs.written_bytes_last.Goals as goal

pub returns : goal.returns
returns c = record {
  moment = λ files inputs a h y e w. bytes_last h a.design a.graph a.cells (accepted_may_be_hardened files inputs h a.design a.graph a.cells a.is) e.0 y e.1.0 e.1.1 w;
  says = λ files inputs a h y e w. bytes_say h a.design a.graph a.cells (accepted_may_be_hardened files inputs h a.design a.graph a.cells a.is) e.0 y e.1.0 e.1.1 w;
}
