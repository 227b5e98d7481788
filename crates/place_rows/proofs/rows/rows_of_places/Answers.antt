use Rattle.std.proofs.Common.{length, ap, ◌∙◌}
use Rattle.std.proofs.lemmas.List.FromFn.{length-map-range_with_len}
use Rattle.place_rows.proofs.Numbered.{rows_are_places}
use Rattle.place_rows.proofs.rows.rows_of_places.Goals as goal

pub new-requires-clause-same : goal.new-requires-clause-same
new-requires-clause-same g c =
    ap length c.deref.ensures.value ∙ ap length c.in_ok-numbers.ensures ∙ length-map-range_with_len g.P.Id.id_of 0 (length c.args.keys.now)

pub returns : goal.returns
returns g c =
    rw (c.deref.ensures.value, c.in_ok-numbers.ensures, rows_are_places g.K.Id.number g.P.Id.id_of c.args.count c.args.keys.now) at c.new.ensures
