use Rattle.cells_laws.proofs.Shapes.{equal_shape_exact}
use Rattle.cells_laws.proofs.equal_shape_is_exact.Goals as goal

pub returns : goal.returns
returns c = equal_shape_exact
