use Rattle.link_rows.proofs.Ends.{sinks_row}
use Rattle.link_rows.proofs.rows.LinkRows.sinks.Goals as goal

pub returns : goal.returns
returns c = sinks_row c.args.self.now c.self.inside.links.items c.self.inside.sources c.self.inside.sinks c.args.w c.row.result.now c.self.invariant c.self.view_is c.requires c.row.ensures
