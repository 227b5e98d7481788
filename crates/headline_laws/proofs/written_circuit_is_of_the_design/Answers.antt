use Rattle.headline_laws.proofs.Hardened.{written_same, written_triplicated}
use Rattle.headline_laws.proofs.written_circuit_is_of_the_design.Goals as goal

pub returns : goal.returns
returns c = record {
  same = λ job sound y r. written_same job sound r.0 y r.1.0 r.1.1;
  triplicated = λ job sound y r. written_triplicated job sound r.0 y r.1.0 r.1.1;
}
