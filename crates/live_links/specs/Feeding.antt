-- Feeds that are given to wires, and cleared again. (Our own.)
use Rattle.std.specs.Prelude.{ℕ, List, [], ◌∷◌, ◌++◌, slice_set, Option, Some, None}
use Rattle.wire_feeds.specs.declared.noted.FedWire.{FedWire}

-- the feeds once these wires have none
abbrev pub cleared : List ℕ → List (Option ℕ) → List (Option ℕ)
cleared [] feeds = feeds
cleared (w ∷ ws) feeds = slice_set (cleared ws feeds) w None

-- the wires that were given a feed once this one is, unless it had one
abbrev pub fed_with : Option ℕ → List ℕ → ℕ → List ℕ
fed_with None fed w = fed ++ w ∷ []
fed_with (Some c) fed w = fed

-- the wires of a list from a place on wait with a feed
abbrev pub waiting : ℕ → List ℕ → List FedWire
waiting feed [] = []
waiting feed (w ∷ ws) = record { wire = w; feed = feed } ∷ waiting feed ws
