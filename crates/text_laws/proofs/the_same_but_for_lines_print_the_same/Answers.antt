use Rattle.std.proofs.Common.{◌≡◌, subst}
use Rattle.text_laws.specs.SameButLines.{SameButLines}
use Rattle.text_laws.proofs.NoFaults.{printed_read}
use Rattle.text_laws.proofs.SamePrint.{same_print}
use Rattle.text_laws.proofs.the_same_but_for_lines_print_the_same.Goals as goal

pub returns : goal.returns
returns g = record {
  same = same_print;
  printed = λ c d formed read.
      (let r = printed_read c formed in
      let one : r.0 ≡ d = (let both = r.1.0 in cc) in
      same_print c d (subst (SameButLines c) one r.1.1));
}
