-- What the parts that feed the pins of a table tell of each pin. (Our own.)
use Rattle.std.specs.Prelude.{◌≡◌, ℕ, ◌<◌, ◌≤◌, List, slice_get, get_or, Option, None, Some, option_and_then}
use Rattle.records.specs.Side as side_of
use Rattle.circuit.specs.Parts.{Source}
use Rattle.circuit.specs.Triples.{triple_of}
use Rattle.part_triples.specs.Numbers.{AreCopies}
use Rattle.rr_ids.specs.Domains.{domain_of}
use Rattle.rr_ids.specs.declared.domain.Domain.{Domain}
use Rattle.table_masks.specs.declared.table_pin.TablePin.{TablePin}
use Rattle.table_masks.specs.declared.table_pin.TablePin.TheVariants.{Open, Fed}

-- the part with the number that stands at a place
abbrev pub fed_by : List Source → List (Option ℕ) → ℕ → Option Source
fed_by all feeds i = option_and_then (slice_get all) (get_or feeds i None)

-- a part that feeds a pin has one triple with the part of this number
abbrev pub FeedAlike : side_of.Side → List Source → Option ℕ → ℕ → Type 0
FeedAlike side all None part = ⊥
FeedAlike side all (Some other) part = AreCopies side all other part

-- the least pin that is fed so, before the place, or the place
pub record IsFirstAlike (side : side_of.Side) (all : List Source) (feeds : List (Option ℕ)) (part place first : ℕ) : Type 0 where
  pub alike : first < place → FeedAlike side all (get_or feeds first None) part
  pub least : (j : ℕ) → j < first → FeedAlike side all (get_or feeds j None) part → ⊥

-- parts of one triple feed two pins
pub record SameFeed (side : side_of.Side) (fed : ℕ → Option Source) (i j : ℕ) : Type 0 where
  pub first : Source
  pub second : Source
  pub feeds_first : fed i ≡ Some first
  pub feeds_second : fed j ≡ Some second
  pub same : triple_of side first.part ≡ triple_of side second.part

-- a part of a domain feeds the pin, and the first pin that one of the same triple feeds is this one
pub record IsFed (side : side_of.Side) (fed : ℕ → Option Source) (i first : ℕ) (d : Domain) : Type 0 where
  pub source : Source
  pub feeds : fed i ≡ Some source
  pub domain : domain_of d ≡ source.domain
  pub before : first ≤ i
  pub alike : SameFeed side fed first i
  pub least : (j : ℕ) → j < first → SameFeed side fed j i → ⊥

-- what stands at a pin
abbrev pub PinTold : side_of.Side → (ℕ → Option Source) → ℕ → TablePin → Type 0
PinTold side fed i Open = fed i ≡ None
PinTold side fed i (Fed first d) = IsFed side fed i first d

-- what stands at each pin of a table
abbrev pub PinsTold : side_of.Side → (ℕ → Option Source) → List TablePin → Type 0
PinsTold side fed pins = (i : ℕ) (p : TablePin) → slice_get pins i ≡ Some p → PinTold side fed i p
