-- What the links into tables tell of a circuit whose routing is clean and whose cells are well formed. (Our own.)
use Rattle.std.specs.Prelude.{◌≡◌, ℕ, List, Option, Some, slice_get}
use Rattle.circuit.specs.Parts.{Source, sources}
use Rattle.circuit.specs.Circuits.{Circuit, IsReadBy}
use Rattle.pin_feeds.specs.PinFeeds.{ArePinFeeds}
use Rattle.pin_feeds.specs.Told.{Tells}
use Rattle.net_order.specs.Orders.{AreKnown, IsLinked}

-- a link leads from a part into a table that reads it
abbrev pub LinksAreReading : Type 0
LinksAreReading = (c : Circuit) (feeds : List (Option ℕ)) → Tells c feeds
    → (j k : ℕ) → IsLinked c.cells feeds j k → (u : Source) × ((s : Source) × ((slice_get (sources c.cells) j ≡ Some u) × ((slice_get (sources c.cells) k ≡ Some s) × IsReadBy c u s)))

-- into each table a link leads from a number of each part that it reads
abbrev pub ReadingIsLinked : Type 0
ReadingIsLinked = (c : Circuit) (feeds : List (Option ℕ)) → Tells c feeds
    → (k : ℕ) (u s : Source) → slice_get (sources c.cells) k ≡ Some s → IsReadBy c u s → (j : ℕ) × ((slice_get (sources c.cells) j ≡ Some u) × IsLinked c.cells feeds j k)

-- what feeds pins are parts of the cells
abbrev pub FeedsAreKnown : Type 0
FeedsAreKnown = (c : Circuit) (feeds : List (Option ℕ)) → ArePinFeeds c feeds → AreKnown c.cells feeds
