-- Links that are added to a clean routing one after the other, and taken back in reverse. (Our own.)
use Rattle.std.specs.Prelude.{◌≢◌, ℕ, ◌<◌, ◌==◌, List, [], ◌∷◌, ◌++◌, length, get_or, drop}
use Rattle.std.specs.List.{count_by}
use Rattle.links.specs.Links.{Link, Routing, Below, Drives, Fed}
use Rattle.repair.specs.Usable.{HasOneDriver}

-- A routing, the links that were added to it, the last one first, and how many links may be added out of each wire.
pub record Stacked : Type 0 where
  pub base : Routing
  pub links : List Link
  pub more : List ℕ

-- what conducts now
abbrev pub present : Stacked → Routing
present s = record { links = s.links ++ s.base.links; outputs = s.base.outputs }

abbrev pub with_link : Stacked → Link → Stacked
with_link s l = record { base = s.base; links = l ∷ s.links; more = s.more }

-- the same without the last link
abbrev pub without_last : Stacked → Stacked
without_last s = record { base = s.base; links = drop 1 s.links; more = s.more }

-- A link may be added: its source has a feed, and its sink no driver; each other wire below the sink has just one, no wire
-- below it has a feed (so none is a cell output), and there is room for it.
pub record IsAddable (s : Stacked) (l : Link) : Type 0 where
  pub known : l.sink < length s.more
  pub fed : Fed (present s) l.source
  pub undriven : (x : ℕ) → Drives (present s) x l.sink → ⊥
  pub one_driver : (w : ℕ) → Below (present s) l.sink w → w ≢ l.sink → HasOneDriver (present s) w
  pub unfed : (w : ℕ) → Below (present s) l.sink w → Fed (present s) w → ⊥
  pub room : count_by (λ (a : Link). a.source == l.source) s.links < get_or s.more l.source 0

-- the links of a path may be added one after the other
abbrev pub AreAddable : Stacked → List Link → Type 0
AreAddable s [] = Unit {0}
AreAddable s (l ∷ ls) = IsAddable s l × AreAddable (with_link s l) ls

-- with all links of a path, added one after the other
abbrev pub with_path : Stacked → List Link → Stacked
with_path s [] = s
with_path s (l ∷ ls) = with_path (with_link s l) ls

-- without the last links, so many; with all of a path and then without as many, all is as before
abbrev pub without_links : ℕ → Stacked → Stacked
without_links n s = record { base = s.base; links = drop n s.links; more = s.more }
