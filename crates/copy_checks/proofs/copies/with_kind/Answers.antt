use Rattle.std.proofs.Common.{length, refl, ap, subst, arith}
use Rattle.circuit.specs.Parts.{sources}
use Rattle.part_copies.specs.Numbered.{AreCopyNumbers}
use Rattle.copy_checks.specs.Unlike.{kind_at}
use Rattle.copy_checks.proofs.Order.{kind_more}
use Rattle.copy_checks.proofs.Slices.{kind_stops, kind_ends}
use Rattle.copy_checks.proofs.copies.with_kind.Goals as goal

pub returns-then-are_absent : goal.returns-then-are_absent
returns-then-are_absent c = λ circuit is i.
    let t = c.args.triple.now in
    let copies = c.copies-copies.result in
    let are = subst (λ v. AreCopyNumbers (sources v) t (kind_at c.args.which c.loop-number.number) copies) is.numbers_are
    (subst (λ k. AreCopyNumbers (sources c.args.design.now.numbers.now) t k copies) c.part_at.ensures c.copies-copies.ensures) in
    kind_stops circuit c.args.design.now.parts.now is.shows.feeds_are.cells_are t c.args.which c.loop-number.number c.args.least c.loop-number.found (c.loop-number.invariant circuit is i) copies are
    (c.if-are_absent.ensures.0 refl)

-- one number more
pub loop-number-preserved : goal.loop-number-preserved
loop-number-preserved c = λ circuit is i.
    let t = c.args.triple.now in
    let copies = c.copies-copies.result in
    let are = subst (λ v. AreCopyNumbers (sources v) t (kind_at c.args.which c.loop-number.number) copies) is.numbers_are
    (subst (λ k. AreCopyNumbers (sources c.args.design.now.numbers.now) t k copies) c.part_at.ensures c.copies-copies.ensures) in
    kind_more circuit t c.args.which c.loop-number.number c.args.least c.loop-number.found c.in_ok-found.found (c.loop-number.invariant circuit is i) (c.in_ok-found.ensures circuit is i are)

pub returns : goal.returns
returns c = λ circuit is i.
    kind_ends circuit c.args.design.now.parts.now is.shows.feeds_are.cells_are c.args.triple.now c.args.which c.loop-number.number c.args.least c.loop-number.found (c.loop-number.invariant circuit is i)
    (let many = ap (λ ss. length ss) c.sources-number-end.ensures.all in omega arith)
