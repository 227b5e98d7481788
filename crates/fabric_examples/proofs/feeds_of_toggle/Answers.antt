use Rattle.std.proofs.Common.{refl}
use Rattle.std.specs.Fmt.{digits}
use Rattle.fabric.specs.Image.{image_of}
use Rattle.fabric.specs.Links.{routing_of}
use Rattle.fabric_laws.specs.PlainGraph.{graph_of}
use Rattle.mini.specs.MiniA.{mini_a}
use Rattle.mini.specs.Toggle.{toggle}
use Rattle.fabric_examples.specs.Feeds.{pin_feeds}
use Rattle.fabric_examples.proofs.Tests.{all_feed}
use Rattle.fabric_examples.proofs.feeds_of_toggle.Goals as goal

pub returns : goal.returns
unfolding digits
returns c = all_feed (graph_of mini_a) (routing_of (graph_of mini_a) (image_of (graph_of mini_a) toggle)) pin_feeds refl
