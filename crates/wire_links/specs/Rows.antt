-- Links as rows of drivers and of next wires. (Our own.)
use Rattle.std.specs.Prelude.{◌≡◌, ℕ, suc, ◌<◌, ◌↔◌, ◌^◌, List, [], ◌∷◌, ◌++◌, map, length, get_or, Option}
use Rattle.std.specs.Ordering.{nat_cmp}
use Rattle.words.specs.Members.{In}
use Rattle.links.specs.Links.{Link, Routing, IsClean}
use Rattle.fabric.specs.InOrder.{IsRising}
use Rattle.wire_feeds.specs.Rows.{AreFeeds, HasNext}
use Rattle.wire_contests.specs.Contests.{AreDriverRows}

-- the rows are those of links: of each wire its drivers, and the wires to which its links lead, each in order
pub record AreLinkRows (wires : ℕ) (links : List Link) (drivers next : List (List ℕ)) : Type 0 where
  pub drivers_long : length drivers ≡ wires
  pub next_long : length next ≡ wires
  pub drivers_are : (w x : ℕ) → In (get_or drivers w []) x ↔ In links (record { source = x; sink = w })
  pub next_are : (x w : ℕ) → In (get_or next x []) w ↔ In links (record { source = x; sink = w })
  pub drivers_rising : (w : ℕ) → IsRising nat_cmp (get_or drivers w [])
  pub next_rising : (x : ℕ) → IsRising nat_cmp (get_or next x [])

-- the links of rows of drivers, where the first row is that of wire k
abbrev pub links_of_rows : ℕ → List (List ℕ) → List Link
links_of_rows k [] = []
links_of_rows k (row ∷ rows) = map (λ x. record { source = x; sink = k }) row ++ links_of_rows (suc k) rows

abbrev pub routing_of_rows : List (List ℕ) → List ℕ → Routing
routing_of_rows drivers outputs = record { links = links_of_rows 0 drivers; outputs = outputs }

-- rows of drivers and of next wires are in step, feeds are those of the links, and the links are clean
pub record AreJoined (drivers next : List (List ℕ)) (feeds : List (Option ℕ)) (outputs : List ℕ) : Type 0 where
  pub rows : AreDriverRows drivers
  pub few : length drivers < 2 ^ 32
  pub next_long : length next ≡ length drivers
  pub feeds_long : length feeds ≡ length drivers
  pub next_rising : (x : ℕ) → IsRising nat_cmp (get_or next x [])
  pub has_next : HasNext (routing_of_rows drivers outputs) next
  pub feeds_are : AreFeeds (routing_of_rows drivers outputs) feeds
  pub clean : IsClean (routing_of_rows drivers outputs)
