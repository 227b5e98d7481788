use Rattle.std.proofs.Common.{◌∙◌}
use Rattle.link_rows.proofs.Ends.{sources_known}
use Rattle.link_rows.proofs.rows.rows_by_source.Goals as goal

pub new-requires-clause-known : goal.new-requires-clause-known
new-requires-clause-known c = sources_known c.args.wires c.args.links.now c.deref.result.now c.requires.within (c.deref.ensures.value ∙ c.in_ok-keys.ensures)
