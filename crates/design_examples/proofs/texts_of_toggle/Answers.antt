use Rattle.std.proofs.Common.{refl}
use Rattle.std.specs.Fmt.{digits}
use Rattle.serde_json.proofs.OnLiterals.{serde_json_on_literals}
use Rattle.design_examples.proofs.texts_of_toggle.Goals as goal

pub returns-clause-side : goal.returns-clause-side
unfolding serde_json_on_literals digits
returns-clause-side c = refl
