use Rattle.std.proofs.Common.{ap}
use Rattle.words.specs.Firsts.{unless_fault}
use Rattle.side_file.proofs.checks.is_small.Goals as goal

pub returns-in-Some : goal.returns-in-Some
returns-in-Some c = ap (λ fault. unless_fault fault c.args.side.now) c.in-Some.ensures

pub returns-in-None : goal.returns-in-None
returns-in-None c = ap (λ fault. unless_fault fault c.args.side.now) c.in-None.ensures
