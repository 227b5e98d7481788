use Rattle.place_rows.proofs.RowsBy.{keys_known, place_rows-map}
use Rattle.mux_rows.proofs.keys.rows_by_sink.Goals as goal

pub rows_of_places-requires-clause-known : goal.rows_of_places-requires-clause-known
rows_of_places-requires-clause-known c =
    rw (c.deref.ensures.value, c.in_ok-keys.ensures) (keys_known (λ m. m.sink) c.args.count c.args.muxes.now c.requires.known)

pub returns : goal.returns
returns c =
    rw (c.deref.ensures.value, c.in_ok-keys.ensures, place_rows-map (λ m. m.sink) c.args.count c.args.muxes.now) at c.rows_of_places.ensures
