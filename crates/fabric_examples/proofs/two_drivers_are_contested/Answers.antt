use Rattle.std.proofs.Common.{◌≡◌, ℕ, refl, codes, eq-eqb}
use Rattle.std.proofs.lemmas.Bool.{false≢true}
use Rattle.std.specs.Fmt.{digits}
use Rattle.links.specs.Links.{Routing, Counting}
use Rattle.fabric.specs.Image.{image_of}
use Rattle.fabric.specs.Links.{routing_of}
use Rattle.fabric_laws.specs.PlainGraph.{graph_of}
use Rattle.mini.specs.MiniA.{mini_a}
use Rattle.mini.specs.Spoken.{wire_called}
use Rattle.fabric_examples.specs.Faulty.{contested}
use Rattle.fabric_examples.proofs.Tests.{counting}
use Rattle.fabric_examples.proofs.two_drivers_are_contested.Goals as goal

abbrev routing : Routing
routing = routing_of (graph_of mini_a) (image_of (graph_of mini_a) contested)

abbrev pin : ℕ
pin = wire_called (graph_of mini_a) (codes "R1C3/A")

abbrev register : ℕ
register = wire_called (graph_of mini_a) (codes "R1C3/Q")

first : Counting routing (wire_called (graph_of mini_a) (codes "R1C3/H0")) pin
unfolding digits
first = counting routing register (wire_called (graph_of mini_a) (codes "R1C3/H0")) pin refl refl

second : Counting routing (wire_called (graph_of mini_a) (codes "R1C3/H3")) pin
unfolding digits
second = counting routing register (wire_called (graph_of mini_a) (codes "R1C3/H3")) pin refl refl

different : wire_called (graph_of mini_a) (codes "R1C3/H0") ≡ wire_called (graph_of mini_a) (codes "R1C3/H3") → ⊥
unfolding digits
different e = false≢true (eq-eqb (wire_called (graph_of mini_a) (codes "R1C3/H0")) (wire_called (graph_of mini_a) (codes "R1C3/H3")) e)

pub returns-clause-drivers : goal.returns-clause-drivers
returns-clause-drivers c = (first, second)

pub returns-clause-not_clean : goal.returns-clause-not_clean
returns-clause-not_clean c clean = different (clean.one_driver pin (wire_called (graph_of mini_a) (codes "R1C3/H0")) (wire_called (graph_of mini_a) (codes "R1C3/H3")) first second)
