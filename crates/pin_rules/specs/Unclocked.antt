-- Which registers aren't clocked, by number. (Our own.)
use Rattle.std.specs.Prelude.{ℕ, ◌+◌, ◌-◌, Bool, true, false, not, ◌&&◌, List, get_or, slice_get, Option, None, Some}
use Rattle.circuit.specs.Cells.{Input, InputWire, InputNotWire, InputZero, InputOne, RegisterCell, Cells}
use Rattle.circuit.specs.Parts.{Kind, OfTable, OfRegister, OfInput, OfClock, Source, sources}
use Rattle.circuit_parts.specs.Flat.{first_pin}
use Rattle.pin_feeds.specs.PinFeeds.{feed_source}
use Rattle.pin_rules.specs.Rules.{is_clock_feed}

abbrev pub takes_wire : Input → Bool
takes_wire (InputWire w) = true
takes_wire (InputNotWire w) = true
takes_wire InputZero = false
takes_wire InputOne = false

-- a clock feeds the clock pin of the register with this number, which is its last pin
abbrev pub is_clocked : Cells → List (Option ℕ) → ℕ → RegisterCell → Bool
is_clocked cells feeds k r = takes_wire r.clock && is_clock_feed (feed_source cells feeds (first_pin cells (k + 1) - 1))

-- the part with this number is a register that no clock feeds
abbrev pub kind_unclocked : Cells → List (Option ℕ) → ℕ → Kind → Bool
kind_unclocked cells feeds k (OfTable t) = false
kind_unclocked cells feeds k (OfRegister r) = not (is_clocked cells feeds k r)
kind_unclocked cells feeds k OfInput = false
kind_unclocked cells feeds k OfClock = false

abbrev pub source_unclocked : Cells → List (Option ℕ) → List Bool → ℕ → Option Source → Bool
source_unclocked cells feeds read k None = false
source_unclocked cells feeds read k (Some s) = get_or read k false && kind_unclocked cells feeds k s.kind

-- the part with this number is read, and a register that no clock feeds
abbrev pub unclocked_at : Cells → List (Option ℕ) → List Bool → ℕ → Bool
unclocked_at cells feeds read k = source_unclocked cells feeds read k (slice_get (sources cells) k)
