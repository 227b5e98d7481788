use Rattle.formed_laws.proofs.GridRead.{read_in_order, read_tiles_apart}
use Rattle.formed_laws.proofs.read_grid_has_tiles_apart.Goals as goal

pub returns : goal.returns
returns c = record { order = read_in_order; apart = read_tiles_apart }
