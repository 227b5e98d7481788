use Rattle.std.proofs.Common.{◌<◌, ◌≤◌, ◌-◌, ℕ, length, get_or}
use Rattle.record_laws.specs.Records.{PlacesRise, place_of}
use Rattle.mux_search.proofs.search.with_place.Given as goal

-- what is before has lower places, and what is behind has higher ones
abbrev pub invariant-search : goal.invariant-search
invariant-search l = record {
  order : l.low ≤ l.high;
  within : l.high ≤ length l.row;
  before : PlacesRise l.rows.muxes l.row → (k : ℕ) → k < l.low → place_of l.rows.muxes (get_or l.row k 0) < l.place;
  behind : PlacesRise l.rows.muxes l.row → (k : ℕ) → l.high ≤ k → k < length l.row → l.place < place_of l.rows.muxes (get_or l.row k 0);
}

abbrev pub decreases-search : goal.decreases-search
decreases-search l = l.high - l.low
