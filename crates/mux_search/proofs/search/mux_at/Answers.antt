use Rattle.std.proofs.Common.{ℕ, List, Some, subst}
use Rattle.record_laws.specs.Records.{FoundAt, PlacesRise}
use Rattle.record_laws.proofs.MuxesFound.{found_so, rise}
use Rattle.mux_search.proofs.search.mux_at.Goals as goal

pub returns : goal.returns
returns c = λ device g standing sink e.
    let muxes = c.args.rows.now.muxes in
    let held = subst (λ (xs : List ℕ). PlacesRise muxes xs → FoundAt muxes xs (Some c.args.place) c.with_place.result) c.of_tile.ensures c.with_place.ensures in
    found_so device g muxes standing c.args.t sink (Some c.args.place) e c.with_place.result (held (rise device g muxes standing c.args.t))
