use Rattle.lasting_laws.proofs.Lasting.{answer_lasts, read_says, written_says}
use Rattle.lasting_laws.proofs.hardened_design_lasts.Goals as goal

pub returns : goal.returns
returns c = record {
  moment = λ job sound y e. answer_lasts job sound e.0 y e.1.0 e.1.1;
  read_says = λ job sound y e. read_says job sound e.0 y e.1.0 e.1.1;
  written_says = λ job sound y e. written_says job sound e.0 y e.1.0 e.1.1;
}
