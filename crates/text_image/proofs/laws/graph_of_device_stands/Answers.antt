use Rattle.text_image.proofs.Standing.{graph_stands}
use Rattle.text_image.proofs.laws.graph_of_device_stands.Goals as goal

pub returns : goal.returns
returns c = graph_stands
