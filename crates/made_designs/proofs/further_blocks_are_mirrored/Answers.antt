use Rattle.std.proofs.Common.{refl}
use Rattle.std.specs.Fmt.{digits}
use Rattle.made_designs.proofs.further_blocks_are_mirrored.Goals as goal

pub returns-clause-first_column : goal.returns-clause-first_column
unfolding digits
returns-clause-first_column c = refl

pub returns-clause-second_column : goal.returns-clause-second_column
unfolding digits
returns-clause-second_column c = refl

pub returns-clause-slices : goal.returns-clause-slices
unfolding digits
returns-clause-slices c = refl

pub returns-clause-second_band : goal.returns-clause-second_band
unfolding digits
returns-clause-second_band c = refl
