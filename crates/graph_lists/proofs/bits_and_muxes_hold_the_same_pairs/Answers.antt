use Rattle.graph_lists.proofs.BitsOf.{mux_from, mux_to}
use Rattle.graph_lists.proofs.bits_and_muxes_hold_the_same_pairs.Goals as goal

pub returns : goal.returns
returns c = λ g m bits are below b. ((λ h. (are.members b).1 (mux_from g b m h).1), (λ h. mux_to g b m below ((are.members b).0 h)))
