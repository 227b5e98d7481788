use Rattle.std.proofs.Common.{sym, ◌∙◌}
use Rattle.database_names.proofs.Adding.{with_new, with_known}
use Rattle.tile_names.proofs.names.add.Goals as goal

pub returns-in_ok-insert : goal.returns-in_ok-insert
returns-in_ok-insert c = λ names long held. with_new names c.args.name c.args.number c.args.numbers.now c.insert.new.self long held (sym c.contains_key.ensures ∙ c.if-not-contains_key.true) c.in_ok-insert.ensures.updates.0

pub returns-else-not-contains_key : goal.returns-else-not-contains_key
returns-else-not-contains_key c = λ names long held. with_known names c.args.name c.args.numbers.now held (sym c.contains_key.ensures ∙ c.if-not-contains_key.false)
