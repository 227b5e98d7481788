use Rattle.std.proofs.Common.{refl}
use Rattle.fabric_laws.specs.PlainGraph.{graph_of}
use Rattle.cells_laws.proofs.Apart.{tiles_apart, kinds_apart}
use Rattle.mini.specs.MiniA.{mini_a}
use Rattle.cells_examples.proofs.names_of_mini_a_are_apart.Goals as goal

pub returns : goal.returns
returns c = record {
  tiles = tiles_apart (graph_of mini_a) refl;
  slices = kinds_apart (λ k. k.tile) (λ k. k.name) mini_a.profile.slices refl;
  pads = kinds_apart (λ k. k.tile) (λ k. k.name) mini_a.profile.pads refl;
}
