use Rattle.cell_readings.specs.Errors.{fault_of}
use Rattle.cram_image.specs.Image.{bits}
use Rattle.harden_core.proofs.CellFaults.{cells_fail}
use Rattle.harden_core.proofs.imaged.cells_or_refused.Goals as goal

pub returns-in-Err : goal.returns-in-Err
returns-in-Err g c =
    cells_fail (g.G.NamedGraph.graph c.args.graph.now) c.args.profile.now (bits c.args.image.now) c.args.side.now (fault_of c.in-Err.error) c.cells_refused.result c.cells_refused.ensures c.in-Err.ensures
