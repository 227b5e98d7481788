-- The least element of a list that is flagged, by its number. (Our own.)
use Rattle.std.specs.Prelude.{◌≡◌, ◌≢◌, ℕ, ◌<◌, Bool, false, List, slice_get, Option, None, Some, if◌then◌else◌}
use Rattle.std.specs.declared.cmp.Ordering.{Ordering}
use Rattle.std.specs.declared.cmp.Ordering.TheVariants.{Greater}
use Rattle.std.specs.Ordering.{is_gt}
use Rattle.circuit.specs.Parts.{PartRef, Source, sources}
use Rattle.circuit.specs.Pins.{Pin, PinRef, pins}
use Rattle.circuit.specs.Circuits.{Circuit}
use Rattle.attempts.specs.PinOrder.{part_cmp, pin_cmp}
use Rattle.answers.specs.Refusals.{Refusal}
use Rattle.design_checks.specs.Checks.{Passes}

-- the order of listed pins, and of listed parts
abbrev pub pin_order : Pin → Pin → Ordering
pin_order p q = pin_cmp p.ref q.ref

abbrev pub part_order : Source → Source → Ordering
part_order s u = part_cmp s.part u.part

-- of the first elements the one with this number is flagged, and comes after no other that is
pub record IsLeastFlagged {X : Type 0} (cmp : X → X → Ordering) (xs : List X) (Flagged : ℕ → Type 0) (n m : ℕ) : Type 0 where
  pub item : X
  pub numbered : slice_get xs m ≡ Some item
  pub flagged : Flagged m
  pub least : (i : ℕ) (y : X) → i < n → slice_get xs i ≡ Some y → Flagged i → cmp item y ≢ Greater

-- the least of the first elements that is flagged, or none where none of them is
abbrev pub LeastFlagged : {X : Type 0} → (X → X → Ordering) → List X → (ℕ → Type 0) → ℕ → Option ℕ → Type 0
LeastFlagged cmp xs Flagged n None = (i : ℕ) → i < n → Flagged i → ⊥
LeastFlagged cmp xs Flagged n (Some m) = IsLeastFlagged cmp xs Flagged n m

-- whether one of two elements comes after the other
abbrev pub is_after : {X : Type 0} → (X → X → Ordering) → Option X → Option X → Bool
is_after cmp (Some x) (Some y) = is_gt (cmp x y)
is_after cmp (Some x) None = false
is_after cmp None y = false

-- of the least element so far and the next one the lesser, by their numbers
abbrev pub lesser_of : {X : Type 0} → (X → X → Ordering) → List X → Option ℕ → ℕ → ℕ
lesser_of cmp xs None n = n
lesser_of cmp xs (Some m) n = if is_after cmp (slice_get xs m) (slice_get xs n) then n else m

-- the least element so far, with the next one looked at, which is flagged or not
abbrev pub with_next : {X : Type 0} → (X → X → Ordering) → List X → Option ℕ → ℕ → Bool → Option ℕ
with_next cmp xs least n flag = if flag then Some (lesser_of cmp xs least n) else least

-- a check of pins passes, or refuses the pin with this number
abbrev pub FindsPin : Circuit → (Refusal → Type 0) → (PinRef → Refusal) → Option ℕ → Type 0
FindsPin c check refusal None = Passes check
FindsPin c check refusal (Some n) = (p : Pin) × ((slice_get (pins c.cells) n ≡ Some p) × check (refusal p.ref))

-- a check of parts passes, or refuses the part with this number
abbrev pub FindsPart : Circuit → (Refusal → Type 0) → (PartRef → Refusal) → Option ℕ → Type 0
FindsPart c check refusal None = Passes check
FindsPart c check refusal (Some n) = (s : Source) × ((slice_get (sources c.cells) n ≡ Some s) × check (refusal s.part))
