use Rattle.link_rows.proofs.Outputs.{shown}
use Rattle.link_rows.proofs.cells.CellOutputs.is_output.Goals as goal

pub returns : goal.returns
returns c = shown c.args.self.now c.self.inside.rows c.args.w c.row.result.now c.is_there.result c.self.invariant c.self.view_is c.row.ensures c.is_there.ensures
