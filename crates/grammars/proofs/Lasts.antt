-- Lists and their last element.
use Rattle.std.proofs.Common.{◌≡◌, List, [], ◌∷◌, ◌++◌, Option, Some, None, refl, ap, ◌∙◌}
use Rattle.std.specs.Prelude.{filter_map}
use Rattle.std.proofs.lemmas.List.Elements.{filter_map-append}
use Rattle.grammars.specs.BitsDb.{last_of}
use Rattle.grammars.specs.RowByRow.{with_last}

pub last_pushed : {X : Type 0} (xs : List X) (x : X) → last_of (xs ++ x ∷ []) ≡ Some x
last_pushed [] x = refl
last_pushed (y ∷ []) x = refl
last_pushed (y ∷ z ∷ zs) x = last_pushed (z ∷ zs) x

pub with_last_pushed : {X : Type 0} (change : X → X) (xs : List X) (x : X) → with_last change (xs ++ x ∷ []) ≡ xs ++ change x ∷ []
with_last_pushed change [] x = refl
with_last_pushed change (y ∷ []) x = refl
with_last_pushed change (y ∷ z ∷ zs) x = ap (λ more. y ∷ more) (with_last_pushed change (z ∷ zs) x)

-- a list is empty, or has a last element
pub data Ending {X : Type 0} : List X → Type 0 where
  NoLast : Ending []
  Last : (front : List X) (x : X) → Ending (front ++ x ∷ [])

ending_with : {X : Type 0} (y : X) (xs : List X) → Ending xs → Ending (y ∷ xs)
ending_with y _ NoLast = Last [] y
ending_with y _ (Last front x) = Last (y ∷ front) x

pub ending_of : {X : Type 0} (xs : List X) → Ending xs
ending_of [] = NoLast
ending_of (x ∷ xs) = ending_with x xs (ending_of xs)

-- what is there as a list
abbrev pub one : {Y : Type 0} → Option Y → List Y
one None = []
one (Some y) = y ∷ []

one_mapped : {X Y : Type 0} (h : X → Option Y) (x : X) (o : Option Y) → h x ≡ o → filter_map h (x ∷ []) ≡ one o
one_mapped h x None e = rw e refl
one_mapped h x (Some y) e = rw e refl

pub mapped : {X Y : Type 0} (h : X → Option Y) (xs : List X) (x : X) → filter_map h (xs ++ x ∷ []) ≡ filter_map h xs ++ one (h x)
mapped h xs x = filter_map-append h xs (x ∷ []) ∙ ap (λ ys. filter_map h xs ++ ys) (one_mapped h x (h x) refl)
