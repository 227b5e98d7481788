use Rattle.std.proofs.Common.{length, sym, subst, ap}
use Rattle.circuit.specs.Cells.{Cells}
use Rattle.net_order.specs.Orders.{AreKnown}
use Rattle.net_order.proofs.ReadTables.{known}
use Rattle.circuit_checks.proofs.Known.{all_known, unknown}
use Rattle.circuit_checks.proofs.whole.loops_checked.Goals as goal

pub returns-then-not-are_known : goal.returns-then-not-are_known
returns-then-not-are_known c = λ circuit of r loop.
    let feeds = c.args.listed.now.feeds.now in
    absurd (unknown c.args.listed.now.parts.now feeds (length c.sources.result.now) (ap (λ xs. length xs) c.sources.ensures.all) (sym c.if-not-are_known.ensures)
    (subst (λ (x : Cells). AreKnown x feeds) of.its_cells (known circuit feeds of.tells.are)))

pub order_checked-requires-clause-known : goal.order_checked-requires-clause-known
order_checked-requires-clause-known c =
    all_known c.args.listed.now.parts.now c.args.listed.now.feeds.now (length c.sources.result.now) (ap (λ xs. length xs) c.sources.ensures.all) (sym c.if-not-are_known.ensures)
