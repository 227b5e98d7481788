use Rattle.std.proofs.Common.{refl}
use Rattle.std.specs.Fmt.{digits}
use Rattle.config_grammar.proofs.worked_text.Goals as goal

pub returns-clause-written : goal.returns-clause-written
unfolding digits
returns-clause-written c = refl
