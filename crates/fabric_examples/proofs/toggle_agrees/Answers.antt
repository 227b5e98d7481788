use Rattle.std.proofs.Common.{refl}
use Rattle.fabric.specs.Image.{image_of}
use Rattle.fabric_laws.specs.PlainGraph.{graph_of}
use Rattle.fabric_laws.proofs.Graphs.{has_graph}
use Rattle.fabric_laws.proofs.Agreeing.{agreeing}
use Rattle.mini.specs.MiniA.{mini_a}
use Rattle.mini.specs.Toggle.{toggle}
use Rattle.fabric_examples.proofs.toggle_agrees.Goals as goal

pub returns : goal.returns
returns c = (agreeing mini_a (graph_of mini_a) (has_graph mini_a) (image_of (graph_of mini_a) toggle) toggle).0 refl
