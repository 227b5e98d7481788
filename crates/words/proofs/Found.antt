-- The fault that is named is that of the first faulty element; where none is named no element has one.
use Rattle.std.proofs.Common.{◌≡◌, List, [], ◌∷◌, ◌++◌, Option, Some, None, refl, ap, subst, ◌∙◌, append_assoc, append-nil}
use Rattle.words.specs.Firsts.{first_fault_after, first_fault, or_else, Faultless, IsFirstFault}

-- as `IsFirstFault`, of a list that stands after some elements
record IsFirstAfter {X E : Type 0} (fault : List X → X → Option E) (before xs : List X) (e : E) : Type 0 where
  front : List X
  element : X
  rest : List X
  whole : xs ≡ front ++ element ∷ rest
  faulty : fault (before ++ front) element ≡ Some e
  earlier : (f r : List X) (y : X) → front ≡ f ++ y ∷ r → fault (before ++ f) y ≡ None

no_cons : {X : Type 0} (f r : List X) (y : X) → [] ≡ f ++ y ∷ r → ⊥
no_cons [] r y e = cc
no_cons (z ∷ f) r y e = cc

-- where x has no fault, what holds before the elements of a list holds with x in front of it
earlier_with : {X E : Type 0} (fault : List X → X → Option E) (before front : List X) (x : X) → fault before x ≡ None
    → ((f r : List X) (y : X) → front ≡ f ++ y ∷ r → fault ((before ++ x ∷ []) ++ f) y ≡ None)
    → (f r : List X) (y : X) → x ∷ front ≡ f ++ y ∷ r → fault (before ++ f) y ≡ None
earlier_with fault before front x none later [] r y e =
    let same : x ≡ y = cc in subst (λ z. fault (before ++ []) z ≡ None) same (rw (append-nil before) none)
earlier_with fault before front x none later (z ∷ f) r y e =
    let same : x ≡ z = cc in
    let tails : front ≡ f ++ y ∷ r = cc in
    subst (λ w. fault (before ++ w ∷ f) y ≡ None) same (rw (← append_assoc before (x ∷ []) f) (later f r y tails))

found_at : {X E : Type 0} (fault : List X → X → Option E) (before xs : List X) (x : X) (e : E)
    → (first_fault_after fault (before ++ x ∷ []) xs ≡ Some e → IsFirstAfter fault (before ++ x ∷ []) xs e)
    → (o : Option E) → fault before x ≡ o → or_else o (first_fault_after fault (before ++ x ∷ []) xs) ≡ Some e → IsFirstAfter fault before (x ∷ xs) e
found_at fault before xs x e later None here h =
    let i = later h in record {
      front = x ∷ i.front;
      element = i.element;
      rest = i.rest;
      whole = ap (λ ys. x ∷ ys) i.whole;
      faulty = rw (← append_assoc before (x ∷ []) i.front) i.faulty;
      earlier = earlier_with fault before i.front x here i.earlier;
    }
found_at fault before xs x e later (Some found) here h = record {
  front = [];
  element = x;
  rest = xs;
  whole = refl;
  faulty = rw (append-nil before) (here ∙ h);
  earlier = λ f r y l. absurd (no_cons f r y l);
}

found_after : {X E : Type 0} (fault : List X → X → Option E) (before xs : List X) (e : E) → first_fault_after fault before xs ≡ Some e → IsFirstAfter fault before xs e
found_after fault before [] e h = absurd (let no : ⊥ = cc in no)
found_after fault before (x ∷ xs) e h = found_at fault before xs x e (λ g. found_after fault (before ++ x ∷ []) xs e g) (fault before x) refl h

pub found : {X E : Type 0} (fault : List X → X → Option E) (xs : List X) (e : E) → first_fault fault xs ≡ Some e → IsFirstFault fault xs e
found fault xs e h =
    let i = found_after fault [] xs e h in
    record { front = i.front; element = i.element; rest = i.rest; whole = i.whole; faulty = i.faulty; earlier = λ f r y l. i.earlier f r y l }

none_at : {X E : Type 0} (fault : List X → X → Option E) (before xs : List X) (x : X)
    → (first_fault_after fault (before ++ x ∷ []) xs ≡ None → (f r : List X) (y : X) → xs ≡ f ++ y ∷ r → fault ((before ++ x ∷ []) ++ f) y ≡ None)
    → (o : Option E) → fault before x ≡ o → or_else o (first_fault_after fault (before ++ x ∷ []) xs) ≡ None
    → (f r : List X) (y : X) → x ∷ xs ≡ f ++ y ∷ r → fault (before ++ f) y ≡ None
none_at fault before xs x later None here h f r y e = earlier_with fault before xs x here (later h) f r y e
none_at fault before xs x later (Some found) here h f r y e = absurd (let no : ⊥ = cc in no)

none_after : {X E : Type 0} (fault : List X → X → Option E) (before xs : List X) → first_fault_after fault before xs ≡ None
    → (f r : List X) (y : X) → xs ≡ f ++ y ∷ r → fault (before ++ f) y ≡ None
none_after fault before [] h f r y e = absurd (no_cons f r y e)
none_after fault before (x ∷ xs) h f r y e = none_at fault before xs x (λ g. none_after fault (before ++ x ∷ []) xs g) (fault before x) refl h f r y e

pub none_found : {X E : Type 0} (fault : List X → X → Option E) (xs : List X) → first_fault fault xs ≡ None → Faultless fault xs
none_found fault xs h = none_after fault [] xs h
