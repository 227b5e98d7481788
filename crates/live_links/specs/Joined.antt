-- When rows, feeds and the links that were added are in step. (Our own.)
use Rattle.std.specs.Prelude.{◌≡◌, ℕ, ◌+◌, ◌-◌, ◌<◌, ◌^◌, ◌==◌, List, [], ◌∷◌, ◌++◌, map, length, get_or, slice_set, Option, Some, None}
use Rattle.std.specs.List.{count_by}
use Rattle.std.specs.Ordering.{nat_cmp}
use Rattle.words.specs.Twice.{HasNoneTwice}
use Rattle.links.specs.Links.{Link, Routing, IsClean}
use Rattle.fabric.specs.InOrder.{IsRising}
use Rattle.open_rows.specs.Rows.{HasRoom, Rows, popped, pushed}
use Rattle.wire_feeds.specs.Rows.{AreFeeds, AreRowsWithin, HasNext}
use Rattle.wire_feeds.specs.Walks.{Walk}
use Rattle.wire_contests.specs.Contests.{HasDrivers}
use Rattle.wire_links.specs.Rows.{routing_of_rows}
use Rattle.live_links.specs.declared.added.AddedLink.{AddedLink}
use Rattle.live_links.specs.Feeding.{cleared, waiting}
use Rattle.live_links.specs.Live.{Stacked}

-- rows of drivers and of next wires, and the feeds, are those of a clean routing
pub record IsJoined (r : Routing) (drivers next : List (List ℕ)) (feeds : List (Option ℕ)) : Type 0 where
  pub few : length drivers < 2 ^ 32
  pub next_long : length next ≡ length drivers
  pub feeds_long : length feeds ≡ length drivers
  pub rising : (w : ℕ) → IsRising nat_cmp (get_or drivers w [])
  pub once : (x : ℕ) → HasNoneTwice (get_or next x [])
  pub within : AreRowsWithin next
  pub has_drivers : HasDrivers r drivers
  pub has_next : HasNext r next
  pub feeds_are : AreFeeds r feeds
  pub clean : IsClean r

abbrev pub links_of : List AddedLink → List Link
links_of added = map (λ a. a.link) added

abbrev pub added_to : Routing → List AddedLink → Routing
added_to base added = record { links = links_of added ++ base.links; outputs = base.outputs }

-- The same of what was added, the last one first: all is in step, and so is what is left once the last link is taken back.
abbrev pub IsStacked : Routing → List AddedLink → List (List ℕ) → List (List ℕ) → List (Option ℕ) → Type 0
IsStacked base [] drivers next feeds = IsJoined (added_to base []) drivers next feeds
IsStacked base (a ∷ rest) drivers next feeds =
    IsJoined (added_to base (a ∷ rest)) drivers next feeds
    × IsStacked base rest (popped drivers a.link.sink) (popped next a.link.source) (cleared a.fed.items feeds)

-- the rows once all that was added is taken back
abbrev pub base_drivers : List AddedLink → List (List ℕ) → List (List ℕ)
base_drivers [] drivers = drivers
base_drivers (a ∷ rest) drivers = base_drivers rest (popped drivers a.link.sink)

abbrev pub base_next : List AddedLink → List (List ℕ) → List (List ℕ)
base_next [] next = next
base_next (a ∷ rest) next = base_next rest (popped next a.link.source)

-- each row is rest long rest at first, and one more for each link that was added to it
abbrev pub AreCounted : List AddedLink → List (List ℕ) → Type 0
AreCounted added next = (x : ℕ) → length (get_or next x []) ≡ length (get_or (base_next added next) x []) + count_by (λ (l : Link). l.source == x) (links_of added)

-- how many more items each row may have
abbrev pub more_of : List ℕ → List (List ℕ) → List ℕ
more_of [] rows = []
more_of (room ∷ rooms) [] = []
more_of (room ∷ rooms) (row ∷ rows) = (room - length row) ∷ more_of rooms rows

abbrev pub base_of : List AddedLink → Rows ℕ → List ℕ → Routing
base_of added drivers outputs = routing_of_rows (base_drivers added drivers.rows) outputs

abbrev pub stacked : List AddedLink → Rows ℕ → Rows ℕ → List ℕ → Stacked
stacked added drivers next outputs =
    record { base = base_of added drivers outputs; links = links_of added; more = more_of next.room (base_next added next.rows) }

-- rows once one of them has an item more, or one less
abbrev pub grown_rows : Rows ℕ → ℕ → ℕ → Rows ℕ
grown_rows r k v = record { rows = pushed r.rows k v; room = r.room }

abbrev pub shrunk_rows : Rows ℕ → ℕ → Rows ℕ
shrunk_rows r k = record { rows = popped r.rows k; room = r.room }

-- a walk along rows with a link, which gives the feed to its sink and the wires below it
abbrev pub BeginsWalk : List (List ℕ) → List (Option ℕ) → Link → ℕ → List ℕ → Type 0
BeginsWalk next feeds l feed outputs = Walk (pushed next l.source l.sink) outputs (length (pushed next l.source l.sink)) (slice_set feeds l.sink (Some feed)) (waiting feed (l.sink ∷ []))

-- a link may be put into rows: there is room, and the feed may be given
pub record CanGrow (drivers next : Rows ℕ) (feeds : List (Option ℕ)) (l : Link) (feed : ℕ) : Type 0 where
  pub drivers_known : l.sink < length drivers.rows
  pub next_known : l.source < length next.rows
  pub drivers_room : HasRoom drivers l.sink
  pub next_room : HasRoom next l.source
  pub sink : l.sink < length feeds
  pub unfed : get_or feeds l.sink None ≡ None
  pub within : AreRowsWithin (pushed next.rows l.source l.sink)
  pub long : length feeds ≡ length next.rows
  pub begins : (outputs : List ℕ) × BeginsWalk next.rows feeds l feed outputs

-- a link was put into rows, and what was given is known
pub record HasGrown (next : Rows ℕ) (feeds : List (Option ℕ)) (l : Link) (feed : ℕ) (feeds_now : List (Option ℕ)) (a : AddedLink) : Type 0 where
  pub link : a.link ≡ l
  pub undo : cleared a.fed.items feeds_now ≡ feeds
  pub long : length feeds_now ≡ length feeds
  pub walk : (outputs : List ℕ) → BeginsWalk next.rows feeds l feed outputs
      → Walk (pushed next.rows l.source l.sink) outputs (length (pushed next.rows l.source l.sink)) feeds_now []

-- what is kept of links that were added, the last one first
pub record IsLinkStack (added : List AddedLink) (drivers next : Rows ℕ) (feeds : List (Option ℕ)) (outputs : List ℕ) : Type 0 where
  pub joined : IsStacked (base_of added drivers outputs) added drivers.rows next.rows feeds
  pub counted : AreCounted added next.rows
  pub roomy : (w : ℕ) → w < length drivers.rows → 0 < get_or drivers.room w 0
