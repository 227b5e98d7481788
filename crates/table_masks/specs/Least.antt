-- The least read table that doesn't mask another domain. (Our own.)
use Rattle.std.specs.Prelude.{◌≡◌, ◌≢◌, ◌↔◌, ℕ, ◌<◌, Bool, true, false, List, length, slice_get, get_or, Option, None, Some}
use Rattle.std.specs.declared.cmp.Ordering.TheVariants.{Greater}
use Rattle.words.specs.Members.{In}
use Rattle.circuit.specs.Cells.{Cells}
use Rattle.circuit.specs.Parts.{Source, sources}
use Rattle.circuit.specs.Circuits.{Circuit, IsRead}
use Rattle.answers.specs.Refusals.{NotMasking}
use Rattle.attempts.specs.PinOrder.{part_cmp}
use Rattle.design_checks.specs.Checks.{Passes}
use Rattle.design_checks.specs.MaskChecks.{TablesFail}
use Rattle.pin_feeds.specs.Told.{Tells}
use Rattle.part_triples.specs.Numbers.{numbers_of}
use Rattle.table_masks.specs.declared.unmasked.Unmasked.{Unmasked}
use Rattle.table_masks.specs.Reaching.{TableReaches}

-- the lists are those of a circuit: its cells, what feeds its pins, and the triples of its parts
pub record ShowsFeeds (c : Circuit) (cells : Cells) (feeds numbers : List (Option ℕ)) : Type 0 where
  pub cells_are : c.cells ≡ cells
  pub tells : Tells c feeds
  pub numbers_are : numbers ≡ numbers_of c.side (sources cells)

-- and the flag of each part is raised exactly where it feeds a pin
pub record Shows (c : Circuit) (cells : Cells) (feeds numbers : List (Option ℕ)) (read : List Bool) : Type 0 where
  pub feeds_are : ShowsFeeds c cells feeds numbers
  pub flags : (k : ℕ) → k < length (sources cells) → (get_or read k false ≡ true) ↔ In feeds (Some k)

-- the least address at which a part fails, or none where it is no table that fails
abbrev pub Reached : Circuit → Source → Option ℕ → Type 0
Reached c s None = (n : ℕ) → TableReaches c s n → ⊥
Reached c s (Some n) = TableReaches c s n × ((m : ℕ) → m < n → TableReaches c s m → ⊥)

-- a read table that fails at its least address, and that comes after none of the first parts that are flagged tables that fail
pub record IsLeastOf (c : Circuit) (read : List Bool) (n : ℕ) (u : Unmasked) : Type 0 where
  pub source : Source
  pub numbered : slice_get (sources c.cells) u.part ≡ Some source
  pub is_read : IsRead c source
  pub reached : Reached c source (Some u.reached)
  pub least : (i : ℕ) (q : Source) → i < n → slice_get (sources c.cells) i ≡ Some q → get_or read i false ≡ true → (m : ℕ) → TableReaches c q m → part_cmp source.part q.part ≢ Greater

-- the least of the first parts, or none where none of them is a flagged table that fails
abbrev pub LeastSoFar : Circuit → List Bool → ℕ → Option Unmasked → Type 0
LeastSoFar c read n None = (i : ℕ) (q : Source) → i < n → slice_get (sources c.cells) i ≡ Some q → get_or read i false ≡ true → (m : ℕ) → TableReaches c q m → ⊥
LeastSoFar c read n (Some u) = IsLeastOf c read n u

-- the next one where it is the first or comes before the least so far, which stays otherwise
abbrev pub IsLesser : List Source → Option Unmasked → Unmasked → Source → Unmasked → Type 0
IsLesser all None next s result = result ≡ next
IsLesser all (Some first) next s result = (p : Source) → slice_get all first.part ≡ Some p
    → (part_cmp p.part s.part ≡ Greater → result ≡ next) × (part_cmp p.part s.part ≢ Greater → result ≡ first)

-- the check of tables passes, or it refuses the part with this number
abbrev pub TellsMasks : Circuit → Option Unmasked → Type 0
TellsMasks c None = Passes (TablesFail c)
TellsMasks c (Some u) = (s : Source) × ((slice_get (sources c.cells) u.part ≡ Some s) × TablesFail c (NotMasking s.part u.reached))
