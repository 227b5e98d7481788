use Rattle.std.proofs.Common.{ℕ, ◌↔◌, List, subst}
use Rattle.std.specs.Prelude.{IsTrue}
use Rattle.words.specs.Members.{In}
use Rattle.route_graph.proofs.Asked.{of_ends}
use Rattle.route_graph.proofs.routing.RouteGraphRoutingGraph.is_output.Goals as goal

pub is_output-requires : goal.is_output-requires
is_output-requires c = (of_ends c.self.inside c.self.invariant c.args.self.now c.self.view_is).output_wires c.args.w c.requires

pub returns : goal.returns
returns c = subst (λ (os : List ℕ). IsTrue c.is_output.result ↔ In os c.args.w) (of_ends c.self.inside c.self.invariant c.args.self.now c.self.view_is).all_outputs c.is_output.ensures
