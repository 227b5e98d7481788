use Rattle.cells_laws.proofs.Sites.{slice_sites, pad_sites}
use Rattle.cells_laws.proofs.sites_are_right.Goals as goal

pub returns : goal.returns
returns c = record { slices = slice_sites; pads = pad_sites }
