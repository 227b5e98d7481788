-- What the lists of rows of kept arcs hold. (Our own.)
use Rattle.std.specs.Prelude.{◌≡◌, ℕ, List, length}
use Rattle.graph_lists.specs.ArcLists.{ArcNumbers}
use Rattle.place_rows.specs.PlaceRows.{rows_by}

-- the rows are those of the arcs, by source, by sink and by mux
pub record AreRowsOf (arcs : List ArcNumbers) (outs ins of_mux : List (List ℕ)) : Type 0 where
  pub by_source : outs ≡ rows_by (λ a. a.source) (length outs) arcs
  pub by_sink : ins ≡ rows_by (λ a. a.sink) (length outs) arcs
  pub by_mux : of_mux ≡ rows_by (λ a. a.mux) (length of_mux) arcs
