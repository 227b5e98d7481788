use Rattle.number_lists.specs.Routed.{graph_of}
use Rattle.check_command.proofs.Answering.{whole_checked}
use Rattle.check_command.proofs.checking.over_its_graph.Goals as goal

pub returns : goal.returns
returns c = λ passes.
    whole_checked c.args.design.now c.args.graph.now.device (graph_of c.args.graph.now) c.over_graph.result c.device.ensures.graph c.requires.its_graph passes c.over_graph.ensures
