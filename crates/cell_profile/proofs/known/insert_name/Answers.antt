use Rattle.cell_profile.proofs.KindNames.{knows_one_more}
use Rattle.cell_profile.proofs.known.insert_name.Goals as goal

pub returns-clause-known : goal.returns-clause-known
returns-clause-known c = λ names known.
    knows_one_more names c.args.kind c.args.known.now c.insert.new.self known c.in_ok-insert.ensures.updates.0
