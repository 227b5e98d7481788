-- What look-ups give of what is there.
use Rattle.std.proofs.Common.{◌≡◌, ℕ, zero, suc, ◌<◌, Bool, List, [], ◌∷◌, length, Option, None, Some, option_map, refl, sym, ap, ◌∙◌, Bor, arith}
use Rattle.std.specs.Prelude.{IfSome, position, slice_get}
use Rattle.std.specs.Option.{IsSome, option_copied}
use Rattle.std.proofs.lemmas.Option.{slice_get_within}
use Rattle.fabric_laws.proofs.Numbered.{at_position}

-- a place that is found is below the length
pub found_below : {X : Type 0} (p : X → Bool) (xs : List X) (o : Option ℕ) → o ≡ position p xs → IfSome o (λ i. i < length xs)
found_below p xs None h = tt
found_below p xs (Some i) h = (let at = at_position p xs i (sym h) in slice_get_within xs i at.0 at.1.0)

present : {X : Type 0} (xs : List X) (i : ℕ) → i < length xs → (x : X) × (slice_get xs i ≡ Some x)
present [] i h = absurd (let no : ⊥ = omega arith in no)
present (x ∷ xs) zero h = (x, refl)
present (x ∷ xs) (suc i) h = present xs i (omega arith)

-- what is lent of an element that is there
pub lent_there : {X Y : Type 0} (f : X → Y) (xs : List X) (i : ℕ) → i < length xs → (o : Option (Bor Y)) → option_map (λ b. b.now) o ≡ option_map f (slice_get xs i) → IsSome o
lent_there {X} {Y} f xs i below None h =
    let at = present xs i below in
    let e : None ≡ Some (f at.0) = h ∙ ap (option_map f) at.1 in
    absurd (let no : ⊥ = cc in no)
lent_there f xs i below (Some b) h = refl

pub lent_is : {X Y : Type 0} (f : X → Y) (xs : List X) (i : ℕ) (o : Option (Bor Y)) (b : Bor Y) → o ≡ Some b → option_map (λ b. b.now) o ≡ option_map f (slice_get xs i) → option_map f (slice_get xs i) ≡ Some b.now
lent_is {X} {Y} f xs i o b is h = sym h ∙ ap (option_map (λ (x : Bor Y). x.now)) is

-- an element itself that is lent
pub copied_there : {X : Type 0} (xs : List X) (i : ℕ) → i < length xs → (o : Option (Bor X)) → option_copied o ≡ slice_get xs i → IsSome o
copied_there {X} xs i below None h =
    let at = present xs i below in
    let e : None ≡ Some at.0 = h ∙ at.1 in
    absurd (let no : ⊥ = cc in no)
copied_there xs i below (Some b) h = refl

pub copied_is : {X : Type 0} (xs : List X) (i : ℕ) (o : Option (Bor X)) (b : Bor X) → o ≡ Some b → option_copied o ≡ slice_get xs i → Some b.now ≡ slice_get xs i
copied_is {X} xs i o b is h = sym (ap (λ (x : Option (Bor X)). option_copied x) is) ∙ h
