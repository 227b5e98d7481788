use Rattle.std.proofs.Common.{◌≡◌, false, refl, sym, ◌∙◌}
use Rattle.std.proofs.lemmas.Bool.{false≢true}
use Rattle.fabric.specs.Image.{image_of}
use Rattle.fabric_laws.specs.PlainAgree.{arcs_agree}
use Rattle.fabric_laws.specs.PlainGraph.{graph_of}
use Rattle.fabric_laws.proofs.Graphs.{has_graph}
use Rattle.fabric_laws.proofs.Agreeing.{agreeing}
use Rattle.mini.specs.MiniA.{mini_a}
use Rattle.fabric_examples.specs.Faulty.{stray_bit}
use Rattle.fabric_examples.proofs.stray_bit_differs.Goals as goal

differs : arcs_agree (graph_of mini_a) (image_of (graph_of mini_a) stray_bit) stray_bit ≡ false
differs = refl

pub returns : goal.returns
returns c agree = false≢true (sym differs ∙ (agreeing mini_a (graph_of mini_a) (has_graph mini_a) (image_of (graph_of mini_a) stray_bit) stray_bit).1 agree)
