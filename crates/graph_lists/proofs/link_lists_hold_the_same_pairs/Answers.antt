use Rattle.graph_lists.proofs.Pairs.{from_is, from_has, into_is, into_has}
use Rattle.graph_lists.proofs.link_lists_hold_the_same_pairs.Goals as goal

pub returns-clause-from : goal.returns-clause-from
returns-clause-from c = λ links x w. ((λ h. from_is links x w h), (λ h. from_has links x w h))

pub returns-clause-into : goal.returns-clause-into
returns-clause-into c = λ links x w. ((λ h. into_is links x w h), (λ h. into_has links x w h))
