use Rattle.std.proofs.Common.{not, ap, sym, ◌∙◌}
use Rattle.side_file.specs.Known.{has_name}
use Rattle.side_file.proofs.Walks.{left, found_here, found_later}
use Rattle.side_file.proofs.listed.first_missing.Goals as goal

pub returns-then-not-contains : goal.returns-then-not-contains
returns-then-not-contains c =
    found_here (λ name. not (has_name c.args.set.now name)) _ _ c.name-item.result.now _ c.loop-name.invariant
    (left (λ n. n.now) c.args.names.now c.loop-name.name-index c.name-item.result c.loop-name-test.true c.name-item.is)
    (ap not (sym (rw c.digest.ensures at c.contains.ensures) ∙ c.if-not-contains.true))

pub loop-name-preserved : goal.loop-name-preserved
loop-name-preserved c =
    found_later (λ name. not (has_name c.args.set.now name)) _ _ c.name-item.result.now _ c.loop-name.invariant
    (left (λ n. n.now) c.args.names.now c.loop-name.name-index c.name-item.result c.loop-name-test.true c.name-item.is)
    (ap not (sym (rw c.digest.ensures at c.contains.ensures) ∙ c.if-not-contains.false))
