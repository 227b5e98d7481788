use Rattle.std.proofs.lemmas.Result.{IfOk-weaker}
use Rattle.copy_checks.proofs.Order.{both_kinds}
use Rattle.copy_checks.proofs.copies.with_triple.Goals as goal

pub returns : goal.returns
returns c = IfOk-weaker c.with_kind-2.result _ _
    (λ r registers circuit is i. both_kinds circuit c.args.triple.now c.args.least c.in_ok-found.found r (c.in_ok-found.ensures circuit is i) (registers circuit is i))
    c.with_kind-2.ensures
