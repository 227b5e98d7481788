use Rattle.route_graph.proofs.made.ends_in_rows.Goals as goal

pub returns-clause-ends : goal.returns-clause-ends
returns-clause-ends c = record {
  links_are = c.in_ok-fixed.ensures.links;
  link_wires = c.in_ok-fixed.ensures.wires;
  outputs_are = c.in_ok-outputs.ensures.outputs;
  output_wires = c.in_ok-outputs.ensures.wires;
}
