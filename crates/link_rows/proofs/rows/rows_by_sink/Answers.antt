use Rattle.std.proofs.Common.{◌∙◌}
use Rattle.link_rows.proofs.Ends.{sinks_known}
use Rattle.link_rows.proofs.rows.rows_by_sink.Goals as goal

pub new-requires-clause-known : goal.new-requires-clause-known
new-requires-clause-known c = sinks_known c.args.wires c.args.links.now c.deref.result.now c.requires.within (c.deref.ensures.value ∙ c.in_ok-keys.ensures)
