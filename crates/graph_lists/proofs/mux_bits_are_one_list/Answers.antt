use Rattle.fabric.specs.MuxBits.{bit_cmp, mux_bits}
use Rattle.fabric_laws.proofs.Sorted.{one_list}
use Rattle.graph_lists.specs.BitLists.{bits_in}
use Rattle.graph_lists.proofs.BitsOf.{arc_names, bit_total, listed_from, listed_to, mux_from, mux_names, mux_to}
use Rattle.graph_lists.proofs.mux_bits_are_one_list.Goals as goal

pub returns-clause-members : goal.returns-clause-members
returns-clause-members c = λ g bits are b. ((λ h. listed_to (mux_bits g) b ((are.members b).0 h)), (λ h. (are.members b).1 (listed_from (mux_bits g) b h)))

pub returns-clause-muxes : goal.returns-clause-muxes
returns-clause-muxes c = λ g known b. (
  (λ h. let found = mux_names g b (listed_from (mux_bits g) b h) in (found.0.mux, mux_to g b found.0.mux (known found.0 found.1.0) found.1.1)),
  (λ h. listed_to (mux_bits g) b (arc_names g b h.0 (mux_from g b h.0 h.1).1)),
)

pub returns-clause-one : goal.returns-clause-one
returns-clause-one c = λ g bits more are are'. one_list bit_cmp bit_total (mux_bits g) bits more are are'

pub returns-clause-of_mux : goal.returns-clause-of_mux
returns-clause-of_mux c = λ g m bits more are are'. one_list bit_cmp bit_total (bits_in g m) bits more are are'
