-- Links as rows: for each wire those to which a link leads; and the feeds of all wires. (Our own.)
use Rattle.std.specs.Prelude.{◌≡◌, ℕ, ◌<◌, ◌↔◌, List, [], length, get_or, Option, Some, None}
use Rattle.words.specs.Members.{In}
use Rattle.links.specs.Links.{Routing, Drives, Feeds, Fed}

-- a link leads from a wire to another
abbrev pub Leads : List (List ℕ) → ℕ → ℕ → Type 0
Leads rows x w = In (get_or rows x []) w

-- each wire of a row has a row
abbrev pub AreRowsWithin : List (List ℕ) → Type 0
AreRowsWithin rows = (x w : ℕ) → Leads rows x w → w < length rows

-- the rows are those of a routing
abbrev pub HasNext : Routing → List (List ℕ) → Type 0
HasNext r rows = (x w : ℕ) → Drives r x w ↔ Leads rows x w

-- What a list says of the feeds of wires: what is there feeds the wire, a wire for which nothing is there has no feed,
-- and a cell output has itself.
pub record AreFeeds (r : Routing) (feeds : List (Option ℕ)) : Type 0 where
  pub fed : (w c : ℕ) → get_or feeds w None ≡ Some c → Feeds r c w
  pub unfed : (w : ℕ) → get_or feeds w None ≡ None → Fed r w → ⊥
  pub own : (c : ℕ) → In r.outputs c → get_or feeds c None ≡ Some c
