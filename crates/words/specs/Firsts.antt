-- The first element of a list that has a fault, each element being judged with all those before it.
use Rattle.std.specs.Prelude.{◌≡◌, List, [], ◌∷◌, ◌++◌, Option, Some, None, Result, Ok, Err}

-- the first option that is there
abbrev pub or_else : {E : Type 0} → Option E → Option E → Option E
or_else None later = later
or_else (Some e) later = Some e

-- the fault of the first element with one, where some elements stand before the list
abbrev pub first_fault_after : {X E : Type 0} → (List X → X → Option E) → List X → List X → Option E
first_fault_after fault before [] = None
first_fault_after fault before (x ∷ xs) = or_else (fault before x) (first_fault_after fault (before ++ x ∷ []) xs)

-- the fault of the first element of the list with one
abbrev pub first_fault : {X E : Type 0} → (List X → X → Option E) → List X → Option E
first_fault fault xs = first_fault_after fault [] xs

-- a fault, or the value where there is none
abbrev pub unless_fault : {X F : Type 0} → Option F → X → Result X F
unless_fault None value = Ok value
unless_fault (Some fault) value = Err fault

-- a fault, or the result where there is none
abbrev pub fault_or : {X F : Type 0} → Option F → Result X F → Result X F
fault_or None result = result
fault_or (Some fault) result = Err fault

-- no element of the list has a fault, each judged with those before it
abbrev pub Faultless : {X E : Type 0} → (List X → X → Option E) → List X → Type 0
Faultless {X} fault xs = (front rest : List X) (x : X) → xs ≡ front ++ x ∷ rest → fault front x ≡ None

-- an element of the list has this fault, and the elements before it have none
pub record IsFirstFault {X E : Type 0} (fault : List X → X → Option E) (xs : List X) (e : E) : Type 0 where
  pub front : List X
  pub element : X
  pub rest : List X
  pub whole : xs ≡ front ++ element ∷ rest
  pub faulty : fault front element ≡ Some e
  pub earlier : Faultless fault front
