-- What holds while wires are found behind some wires. (Our own.)
use Rattle.std.specs.Prelude.{ℕ, ◌<◌, List, slice_index}
use Rattle.words.specs.Members.{In}
use Rattle.links.specs.Links.{Routing, Counting, Upstream}

-- The first wires are found, and each wire that is found is back from one of them along counting drivers. So are the counting
-- drivers of each of the first that were found, so many.
pub record Finds (r : Routing) (first found : List ℕ) (at : ℕ) : Type 0 where
  pub begun : (x : ℕ) → In first x → In found x
  pub behind : (w : ℕ) → In found w → (x : ℕ) × (In first x × Upstream r x w)
  pub spread : (k : ℕ) → k < at → (v : ℕ) → Counting r v (slice_index found k) → In found v
