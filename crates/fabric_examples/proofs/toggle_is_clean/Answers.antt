use Rattle.std.proofs.Common.{refl}
use Rattle.fabric.specs.Image.{image_of}
use Rattle.fabric.specs.Links.{routing_of}
use Rattle.fabric_laws.specs.PlainGraph.{graph_of}
use Rattle.mini.specs.MiniA.{mini_a}
use Rattle.mini.specs.Toggle.{toggle}
use Rattle.fabric_examples.proofs.Tests.{clean_once}
use Rattle.fabric_examples.proofs.toggle_is_clean.Goals as goal

pub returns : goal.returns
returns c = clean_once (routing_of (graph_of mini_a) (image_of (graph_of mini_a) toggle)) refl
