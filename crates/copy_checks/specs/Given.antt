-- The design that the program is given. (Our own.)
use Rattle.std.specs.Prelude.{◌≡◌}
use Rattle.circuit.specs.Circuits.{Circuit}
use Rattle.table_masks.specs.Least.{Shows}
use Rattle.part_copies.specs.Numbered.{AreNumberedOnce}
use Rattle.copy_checks.specs.declared.design.Design.{Design}

-- it is that of a circuit
pub record IsOf (c : Circuit) (d : Design) : Type 0 where
  pub shows : Shows c d.parts.now d.feeds.now d.triples.now d.read.now
  pub side_is : c.side ≡ d.side.now
  pub numbers_are : d.numbers.now ≡ d.parts.now
  pub once : AreNumberedOnce c.cells
