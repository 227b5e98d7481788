use Rattle.std.proofs.Common.{refl}
use Rattle.std.specs.Fmt.{digits}
use Rattle.made_designs.proofs.blocks_are_corridors.Goals as goal

pub returns-clause-text : goal.returns-clause-text
unfolding digits
returns-clause-text c = refl

pub returns-clause-grid : goal.returns-clause-grid
unfolding digits
returns-clause-grid c = refl

pub returns-clause-tiles : goal.returns-clause-tiles
unfolding digits
returns-clause-tiles c = refl

pub returns-clause-slices : goal.returns-clause-slices
unfolding digits
returns-clause-slices c = refl

pub returns-clause-pads : goal.returns-clause-pads
unfolding digits
returns-clause-pads c = refl
