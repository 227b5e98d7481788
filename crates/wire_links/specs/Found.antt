-- What holds while wires are found along links. (Our own.)
use Rattle.std.specs.Prelude.{◌<◌, ℕ, List, slice_index}
use Rattle.words.specs.Members.{In}
use Rattle.links.specs.Links.{Reaches}
use Rattle.wire_feeds.specs.Rows.{Leads}

-- Each wire that is found is reached from the first one, which is found. So are the wires next to each of the first ones, so
-- many.
pub record Finds (next : List (List ℕ)) (w : ℕ) (found : List ℕ) (at : ℕ) : Type 0 where
  pub first : In found w
  pub reached : (x : ℕ) → In found x → Reaches (Leads next) w x
  pub spread : (k : ℕ) → k < at → (v : ℕ) → Leads next (slice_index found k) v → In found v
