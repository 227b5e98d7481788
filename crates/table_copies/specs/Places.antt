-- Where a part stands among parts in order. (Our own.)
use Rattle.std.specs.Prelude.{◌≡◌, ℕ, ◌<◌, ◌≤◌, List, length, slice_get, Some}
use Rattle.std.specs.declared.cmp.Ordering.TheVariants.{Less, Greater}
use Rattle.circuit.specs.Parts.{PartRef}
use Rattle.attempts.specs.PinOrder.{part_cmp}
use Rattle.table_copies.specs.declared.places.Place.{Place}
use Rattle.table_copies.specs.declared.places.Place.TheVariants.{At, Before}

-- it comes after those before a place
abbrev pub IsAfter : List PartRef → PartRef → ℕ → Type 0
IsAfter parts p i = (j : ℕ) (q : PartRef) → j < i → slice_get parts j ≡ Some q → part_cmp p q ≡ Greater

-- it stands at a place, or comes before what stands there, and after those before
abbrev pub IsPlace : List PartRef → PartRef → Place → Type 0
IsPlace parts p (At i) = (slice_get parts i ≡ Some p) × IsAfter parts p i
IsPlace parts p (Before i) = (i ≤ length parts) × IsAfter parts p i × ((q : PartRef) → slice_get parts i ≡ Some q → part_cmp p q ≡ Less)
