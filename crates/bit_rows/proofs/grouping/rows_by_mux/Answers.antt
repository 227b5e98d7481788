use Rattle.place_rows.proofs.RowsBy.{keys_known}
use Rattle.bit_rows.proofs.Inverse.{mux_rows}
use Rattle.bit_rows.proofs.grouping.rows_by_mux.Goals as goal

pub new-requires-clause-known : goal.new-requires-clause-known
new-requires-clause-known c =
    rw (c.deref.ensures.value, c.in_ok-muxes.ensures) (keys_known (λ p. p.mux) c.args.count c.args.pairs.now c.requires.known)

pub returns : goal.returns
returns c =
    rw (c.deref.ensures.value, c.deref-2.ensures.value, c.in_ok-muxes.ensures, c.in_ok-bits.ensures, mux_rows c.args.count c.args.pairs.now) at c.new.ensures
