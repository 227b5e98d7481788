-- A table by itself: the addresses to which the pins of another domain lead. (After majority voting.)
use Rattle.std.specs.Prelude.{◌≡◌, ◌≢◌, ℕ, ◌^◌, ◌<◌, Bool, false, List, length, slice_get, Option, None, Some, ◌==◌}
use Rattle.std.specs.Int.{bit_at}
use Rattle.rr_ids.specs.declared.domain.Domain.{Domain}
use Rattle.rr_ids.specs.declared.domain.Domain.TheVariants.{D0, D1, D2}
use Rattle.table_masks.specs.declared.table_pin.TablePin.{TablePin}
use Rattle.table_masks.specs.declared.table_pin.TablePin.TheVariants.{Open, Fed}

-- a bit of a number is 1
abbrev pub is_set : ℕ → ℕ → Bool
is_set n k = bit_at n k == 1

-- A pin may have its bit of one address before and that of another one after, where the pins of a domain turn: a pin with no
-- feed has 0, one that parts of a triple feed has the bit of the first such pin before, and keeps it in another domain.
abbrev pub MayTurn : Domain → ℕ → ℕ → ℕ → TablePin → Type 0
MayTurn other before after k Open = (is_set before k ≡ false) × (is_set after k ≡ false)
MayTurn other before after k (Fed first d) = (is_set before k ≡ is_set before first) × (d ≢ other → is_set before k ≡ is_set after k)

-- the pins of a domain lead from one address to another one
abbrev pub Turns : Domain → ℕ → ℕ → List TablePin → Type 0
Turns other before after pins = (k : ℕ) (p : TablePin) → slice_get pins k ≡ Some p → MayTurn other before after k p

-- the word has another bit there
abbrev pub Starts : ℕ → List TablePin → Domain → ℕ → ℕ → Type 0
Starts word pins other before after = (is_set word before ≢ is_set word after) × Turns other before after pins

-- from one of the addresses the pins of a domain lead to this one
abbrev pub FailsBy : ℕ → List TablePin → Domain → ℕ → Type 0
FailsBy word pins other after = (before : ℕ) × ((before < 2 ^ length pins) × Starts word pins other before after)

-- those of a domain other than the table's own do
abbrev pub FailsIn : ℕ → List TablePin → Domain → ℕ → Type 0
FailsIn word pins own after = (other : Domain) × ((other ≢ own) × FailsBy word pins other after)

-- the least address to which those of another domain lead, or none where they lead to none
abbrev pub LeastReached : ℕ → List TablePin → Domain → Option ℕ → Type 0
LeastReached word pins own None = (n : ℕ) → n < 2 ^ length pins → FailsIn word pins own n → ⊥
LeastReached word pins own (Some n) = (n < 2 ^ length pins) × FailsIn word pins own n × ((m : ℕ) → m < n → FailsIn word pins own m → ⊥)

-- the other domains
abbrev pub first_other : Domain → Domain
first_other D0 = D1
first_other D1 = D0
first_other D2 = D0

abbrev pub second_other : Domain → Domain
second_other D0 = D2
second_other D1 = D2
second_other D2 = D1
