use Rattle.upset_laws.proofs.Decide.{effect_list}
use Rattle.upset_laws.proofs.effect_is_listed.Goals as goal

pub returns : goal.returns
returns c = effect_list
