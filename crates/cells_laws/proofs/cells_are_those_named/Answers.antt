use Rattle.cells_laws.proofs.Named.{slice_names, pad_names, slices_named, pads_named}
use Rattle.cells_laws.proofs.cells_are_those_named.Goals as goal

pub returns : goal.returns
returns c = record { slice_names = slice_names; pad_names = pad_names; slices = slices_named; pads = pads_named }
