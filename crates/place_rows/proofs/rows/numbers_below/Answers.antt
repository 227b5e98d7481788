use Rattle.std.proofs.Common.{sym, arith}
use Rattle.std.proofs.lemmas.List.FromFn.{map-range_with_len_more}
use Rattle.place_rows.proofs.rows.numbers_below.Goals as goal

pub loop-number-preserved : goal.loop-number-preserved
loop-number-preserved g c =
    rw (c.in_ok-push.ensures.items, c.loop-number.invariant, c.from_u32.ensures) (sym (map-range_with_len_more g.P.Id.id_of 0 c.loop-number.number c.loop-number.number (omega arith)))
