-- What holds while a walk gives feeds to wires. No order of wires is in it. (Our own.)
use Rattle.std.specs.Prelude.{◌≡◌, ℕ, ◌⊎◌, Bool, true, false, List, [], ◌∷◌, ◌++◌, length, get_or, slice_set, Option, Some, None}
use Rattle.std.specs.List.{count_by}
use Rattle.words.specs.Members.{In}
use Rattle.links.specs.Links.{Reaches}
use Rattle.wire_feeds.specs.declared.noted.FedWire.{FedWire}
use Rattle.wire_feeds.specs.Rows.{Leads}

-- a wire has a feed so far
abbrev pub IsFed : List (Option ℕ) → ℕ → Type 0
IsFed feeds w = (c : ℕ) × (get_or feeds w None ≡ Some c)

-- no wire has a feed
abbrev pub IsUnfed : List (Option ℕ) → Type 0
IsUnfed feeds = (w : ℕ) → get_or feeds w None ≡ None

abbrev pub is_open : Option ℕ → Bool
is_open None = true
is_open (Some c) = false

-- how many wires have no feed so far
abbrev pub open_count : List (Option ℕ) → ℕ
open_count feeds = count_by is_open feeds

-- the feeds once a wire has this feed, unless it had one
abbrev pub feeds_with : Option ℕ → List (Option ℕ) → ℕ → ℕ → List (Option ℕ)
feeds_with None feeds wire feed = slice_set feeds wire (Some feed)
feeds_with (Some c) feeds wire feed = feeds

-- the wires that wait once this one does, unless it had a feed
abbrev pub waiting_with : Option ℕ → List FedWire → ℕ → ℕ → List FedWire
waiting_with None waiting wire feed = waiting ++ record { wire = wire; feed = feed } ∷ []
waiting_with (Some c) waiting wire feed = waiting

-- a wire waits
abbrev pub Waits : List FedWire → ℕ → Type 0
Waits waiting w = (f : FedWire) × (In waiting f × (f.wire ≡ w))

-- a wire is reached from a cell output
pub record IsReached (rows : List (List ℕ)) (outputs : List ℕ) (c w : ℕ) : Type 0 where
  pub output : In outputs c
  pub reach : Reaches (Leads rows) c w

-- A walk: what has a feed is reached from it. A wire with a feed is the busy one, or waits, or all wires next to it have a
-- feed. A wire that waits has the feed that it waits with.
pub record Walk (rows : List (List ℕ)) (outputs : List ℕ) (busy : ℕ) (feeds : List (Option ℕ)) (waiting : List FedWire) : Type 0 where
  pub long : length feeds ≡ length rows
  pub reached : (w c : ℕ) → get_or feeds w None ≡ Some c → IsReached rows outputs c w
  pub spread : (w c : ℕ) → get_or feeds w None ≡ Some c → (w ≡ busy) ⊎ (Waits waiting w ⊎ ((v : ℕ) → Leads rows w v → IsFed feeds v))
  pub held : (f : FedWire) → In waiting f → get_or feeds f.wire None ≡ Some f.feed
  pub own : (c : ℕ) → In outputs c → get_or feeds c None ≡ Some c
