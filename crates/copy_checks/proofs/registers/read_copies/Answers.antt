use Rattle.std.proofs.lemmas.Result.{IfOk-weaker}
use Rattle.copy_checks.proofs.Kept.{copies_read}
use Rattle.copy_checks.proofs.registers.read_copies.Goals as goal

pub returns : goal.returns
returns c = IfOk-weaker c.listed.result _ _
    (λ list there circuit is t number are. copies_read c.args.design.now.parts.now c.args.design.now.feeds.now c.args.design.now.triples.now c.args.design.now.read.now circuit is.shows is.once t number c.args.copies.now are
    c.kept-first.result c.kept-second.result c.kept-third.result c.kept-first.ensures c.kept-second.ensures c.kept-third.ensures list.items there)
    c.listed.ensures
