-- Which pins break a rule, by number. (Our own.)
use Rattle.std.specs.Prelude.{ℕ, Bool, false, ◌&&◌, List, get_or, slice_get, Option, None, Some}
use Rattle.circuit.specs.Cells.{Cells, PadCell}
use Rattle.circuit.specs.Parts.{Source, sources, output_pads}
use Rattle.circuit.specs.Pins.{Pin, pins}
use Rattle.pin_feeds.specs.PinFeeds.{feed_source}
use Rattle.pin_rules.specs.declared.owners.PinOwner.{PinOwner}
use Rattle.pin_rules.specs.declared.owners.PinOwner.TheVariants.{Part, Pad}
use Rattle.pin_rules.specs.declared.rules.PinRule.{PinRule}
use Rattle.pin_rules.specs.Rules.{breaks, pad_breaks}

abbrev pub part_flag : PinRule → List Bool → ℕ → ℕ → Option Source → Option Source → Bool
part_flag rule read k n feed None = false
part_flag rule read k n feed (Some s) = get_or read k false && breaks rule k s n feed

abbrev pub pad_flag : PinRule → Option Source → Option PadCell → Bool
pad_flag rule feed None = false
pad_flag rule feed (Some p) = pad_breaks rule p feed

-- the pin with this number in its part breaks the rule, by what it is of
abbrev pub owner_flag : PinRule → Cells → List Bool → ℕ → Option Source → Option PinOwner → Bool
owner_flag rule cells read n feed None = false
owner_flag rule cells read n feed (Some (Part k)) = part_flag rule read k n feed (slice_get (sources cells) k)
owner_flag rule cells read n feed (Some (Pad j)) = pad_flag rule feed (slice_get (output_pads cells) j)

abbrev pub pin_flag : PinRule → Cells → List Bool → Option Source → Option PinOwner → Option Pin → Bool
pin_flag rule cells read feed owner None = false
pin_flag rule cells read feed owner (Some p) = owner_flag rule cells read p.ref.pin feed owner

-- the pin with this number breaks the rule
abbrev pub flag_at : PinRule → Cells → List (Option ℕ) → List Bool → List PinOwner → ℕ → Bool
flag_at rule cells feeds read owners i = pin_flag rule cells read (feed_source cells feeds i) (slice_get owners i) (slice_get (pins cells) i)
