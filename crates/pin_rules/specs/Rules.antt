-- When a pin breaks a rule, by what feeds it. (Our own.)
use Rattle.std.specs.Prelude.{ℕ, ◌+◌, ◌^◌, ◌==◌, Bool, true, false, not, ◌&&◌, length, min, nat_lt, get_or, Option, None, Some, if◌then◌else◌}
use Rattle.std.specs.Int.{bit_at}
use Rattle.std.specs.List.{list_all, range_with_len}
use Rattle.records.specs.Side.{Domain, D0, D1, D2}
use Rattle.circuit.specs.Cells.{PadCell, TableCell}
use Rattle.circuit.specs.Parts.{Kind, OfTable, OfRegister, OfInput, OfClock, Source}
use Rattle.pin_rules.specs.declared.rules.PinRule.{PinRule}
use Rattle.pin_rules.specs.declared.rules.PinRule.TheVariants.{Open, Clock, Foreign}

abbrev pub is_clock : Kind → Bool
is_clock (OfTable t) = false
is_clock (OfRegister r) = false
is_clock OfInput = false
is_clock OfClock = true

-- a pin with this number is the clock pin of a register
abbrev pub is_clock_pin : Kind → ℕ → Bool
is_clock_pin (OfTable t) n = false
is_clock_pin (OfRegister r) n = n == 3
is_clock_pin OfInput n = false
is_clock_pin OfClock n = false

-- where the address has 0 at the pin, the word has the same bit there as at the address that has 1 at the pin
abbrev pub same_at : ℕ → ℕ → ℕ → Bool
same_at word n a = if bit_at a n == 0 then bit_at word a == bit_at word (a + 2 ^ n) else true

-- how many addresses the pins of a table have, of which there are up to four
abbrev pub addresses : ℕ → ℕ
addresses pins = 2 ^ min pins 4

-- the table gives the same for both bits at the pin, of which the number is below four
abbrev pub table_ignores : TableCell → ℕ → Bool
table_ignores t n = nat_lt n 4 && list_all (same_at t.word n) (range_with_len 0 (addresses (length t.pins)))

abbrev pub ignores_pin : Kind → ℕ → Bool
ignores_pin (OfTable t) n = table_ignores t n
ignores_pin (OfRegister r) n = false
ignores_pin OfInput n = false
ignores_pin OfClock n = false

abbrev pub same_domain : Domain → Domain → Bool
same_domain D0 D0 = true
same_domain D1 D1 = true
same_domain D2 D2 = true
same_domain _ _ = false

-- the feed is a clock pad
abbrev pub is_clock_feed : Option Source → Bool
is_clock_feed None = false
is_clock_feed (Some f) = is_clock f.kind

-- there is a feed, of another domain
abbrev pub is_foreign_feed : Domain → Option Source → Bool
is_foreign_feed d None = false
is_foreign_feed d (Some f) = not (same_domain d f.domain)

-- there is no feed
abbrev pub is_unfed : Option Source → Bool
is_unfed None = true
is_unfed (Some f) = false

-- the pin with this number of a read part, which has a number too, breaks the rule
abbrev pub breaks : PinRule → ℕ → Source → ℕ → Option Source → Bool
breaks Open k s n feed = is_unfed feed && not (is_clock_pin s.kind n) && not (ignores_pin s.kind n)
breaks Clock k s n feed = is_clock_feed feed && not (is_clock_pin s.kind n)
breaks (Foreign voters) k s n feed = is_foreign_feed s.domain feed && not (get_or voters.now k false)

-- the pin of an output pad breaks the rule
abbrev pub pad_breaks : PinRule → PadCell → Option Source → Bool
pad_breaks Open p feed = is_unfed feed
pad_breaks Clock p feed = is_clock_feed feed
pad_breaks (Foreign voters) p feed = is_foreign_feed p.domain feed
