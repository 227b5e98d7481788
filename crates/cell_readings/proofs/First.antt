-- The first fault of a list, one element after the other.
use Rattle.std.proofs.Common.{◌≡◌, ℕ, zero, suc, ◌+◌, ◌<◌, ◌≤◌, List, [], ◌∷◌, ◌++◌, flat_map, map, drop, length, get_or, Option, None, Some, Result, Ok, Err, refl, sym, ap, ap₂, subst, ◌∙◌, arith, add-one}
use Rattle.std.specs.Prelude.{IfSome}
use Rattle.std.proofs.lemmas.List.{drop_all}
use Rattle.words.specs.Firsts.{or_else, unless_fault}
use Rattle.words.specs.OrMemory.{OrMemory}
use Rattle.cell_readings.specs.First.{first_of}

or_assoc : {E : Type 0} (a b c : Option E) → or_else (or_else a b) c ≡ or_else a (or_else b c)
or_assoc None b c = refl
or_assoc (Some e) b c = refl

module _ {X E : Type 0} (fault : X → Option E) where
  pub first_both : (xs ys : List X) → first_of fault (xs ++ ys) ≡ or_else (first_of fault xs) (first_of fault ys)
  first_both [] ys = refl
  first_both (x ∷ xs) ys = ap (or_else (fault x)) (first_both xs ys) ∙ sym (or_assoc (fault x) (first_of fault xs) (first_of fault ys))

  -- the fault of the next element, or of those behind it
  pub first_step : (xs : List X) (i : ℕ) (x : X) → i < length xs → x ≡ get_or xs i x → first_of fault (drop i xs) ≡ or_else (fault x) (first_of fault (drop (suc i) xs))
  first_step [] i x l e = absurd (let no : ⊥ = omega arith in no)
  first_step (y ∷ ys) zero x l e = ap (λ z. or_else (fault z) (first_of fault ys)) (sym e)
  first_step (y ∷ ys) (suc i) x l e = first_step ys i x (let k : i < length ys = omega arith in k) e

  -- nothing is left
  pub first_none : (xs : List X) (i : ℕ) → length xs ≤ i → first_of fault (drop i xs) ≡ None
  first_none xs i l = ap (first_of fault) (drop_all i xs l)

  pub first_mapped : {Y : Type 0} (h : Y → X) (ys : List Y) → first_of fault (map h ys) ≡ first_of (λ y. fault (h y)) ys
  first_mapped h [] = refl
  first_mapped h (y ∷ ys) = ap (or_else (fault (h y))) (first_mapped h ys)

  pub first_flat : {Y : Type 0} (h : Y → List X) (ys : List Y) → first_of fault (flat_map h ys) ≡ first_of (λ y. first_of fault (h y)) ys
  first_flat h [] = refl
  first_flat h (y ∷ ys) = first_both (h y) (flat_map h ys) ∙ ap (or_else (first_of fault (h y))) (first_flat h ys)

-- where there is none, that is so
pub is_none : {X E : Type 0} (o : Option E) (u v : X) → unless_fault o u ≡ Ok v → o ≡ None
is_none None u v e = refl
is_none (Some f) u v e = absurd (let no : ⊥ = cc in no)

-- the first of two is the fault of both
pub is_first : {X E : Type 0} (o p : Option E) (u : X) (f : E) → unless_fault o u ≡ Err f → unless_fault (or_else o p) u ≡ Err f
is_first None p u f e = absurd (let no : ⊥ = cc in no)
is_first (Some g) p u f e = e

-- a front of the list passes: its fault is that of those that are left
pub first_passed : {X E : Type 0} (fault : X → Option E) (xs : List X) (i : ℕ) (x : X) → i < length xs → x ≡ get_or xs i x → unless_fault (fault x) (tt {0}) ≡ Ok (tt {0}) → first_of fault (drop i xs) ≡ first_of fault xs
    → first_of fault (drop (i + 1) xs) ≡ first_of fault xs
first_passed fault xs i x l e passes h = rw add-one
    (sym (ap (λ o. or_else o (first_of fault (drop (suc i) xs))) (is_none (fault x) (tt {0}) (tt {0}) passes)) ∙ (sym (first_step fault xs i x l e) ∙ h))

-- the next element doesn't
pub first_found : {X E : Type 0} (fault : X → Option E) (xs : List X) (i : ℕ) (x : X) (found : Option E) → i < length xs → x ≡ get_or xs i x → IfSome found (λ f. unless_fault (fault x) (tt {0}) ≡ Err f)
    → first_of fault (drop i xs) ≡ first_of fault xs → IfSome found (λ f. unless_fault (first_of fault xs) (tt {0}) ≡ Err f)
first_found fault xs i x None l e found h = tt
first_found fault xs i x (Some f) l e found h =
    ap (λ o. unless_fault o (tt {0})) (sym h ∙ first_step fault xs i x l e) ∙ is_first (fault x) (first_of fault (drop (suc i) xs)) (tt {0}) f found

-- all pass
pub first_end : {X E : Type 0} (fault : X → Option E) (xs : List X) (i : ℕ) → length xs ≤ i → first_of fault (drop i xs) ≡ first_of fault xs → unless_fault (first_of fault xs) (tt {0}) ≡ Ok (tt {0})
first_end fault xs i l h = ap (λ o. unless_fault o (tt {0})) (sym h ∙ first_none fault xs i l)

-- the fault of the first of two is that of both
pub found_first : {E : Type 0} (o p found : Option E) → IfSome found (λ f. unless_fault o (tt {0}) ≡ Err f) → IfSome found (λ f. unless_fault (or_else o p) (tt {0}) ≡ Err f)
found_first o p None h = tt
found_first o p (Some f) h = is_first o p (tt {0}) f h

-- where the first of two has none, that of the second is
pub passed : {E : Type 0} (o p : Option E) → unless_fault o (tt {0}) ≡ Ok (tt {0}) → unless_fault p (tt {0}) ≡ unless_fault (or_else o p) (tt {0})
passed None p e = refl
passed (Some f) p e = absurd (let no : ⊥ = cc in no)

pub found_later : {E : Type 0} (o p found : Option E) → unless_fault o (tt {0}) ≡ Ok (tt {0}) → IfSome found (λ f. unless_fault p (tt {0}) ≡ Err f)
    → IfSome found (λ f. unless_fault (or_else o p) (tt {0}) ≡ Err f)
found_later o p None e h = tt
found_later o p (Some f) e h = sym (passed o p e) ∙ h

pub result_later : {E G : Type 0} (fault : G → Option E) (r : Result (Unit {0}) G) (o p : Option E) → unless_fault o (tt {0}) ≡ Ok (tt {0}) → OrMemory (λ done. done) fault r (unless_fault p (tt {0}))
    → OrMemory (λ done. done) fault r (unless_fault (or_else o p) (tt {0}))
result_later fault r o p e h = subst (OrMemory (λ done. done) fault r) (passed o p e) h

-- nothing stands behind the last
pub last : {E : Type 0} (o : Option E) → unless_fault o (tt {0}) ≡ unless_fault (or_else o None) (tt {0})
last None = refl
last (Some f) = refl

-- the first fault of three lists in turn
pub in_three : {X Y Z R E : Type 0} (fault : R → Option E) (a : X → R) (b : Y → R) (d : Z → List R) (xs : List X) (ys : List Y) (zs : List Z)
    → or_else (first_of (λ x. fault (a x)) xs) (or_else (first_of (λ y. fault (b y)) ys) (first_of (λ z. first_of fault (d z)) zs))
    ≡ first_of fault (map a xs ++ map b ys ++ flat_map d zs)
in_three fault a b d xs ys zs =
    sym (first_both fault (map a xs ++ map b ys) (flat_map d zs)
    ∙ (ap (λ o. or_else o (first_of fault (flat_map d zs))) (first_both fault (map a xs) (map b ys))
    ∙ (or_assoc (first_of fault (map a xs)) (first_of fault (map b ys)) (first_of fault (flat_map d zs))
    ∙ ap₂ or_else (first_mapped fault a xs) (ap₂ or_else (first_mapped fault b ys) (first_flat fault d zs)))))

-- the same of the first of a list and those behind it
module _ {X E : Type 0} (fault : X → Option E) (x : X) (xs : List X) where
  pub list_first : (found : Option E) → IfSome found (λ f. unless_fault (fault x) (tt {0}) ≡ Err f) → IfSome found (λ f. unless_fault (first_of fault (x ∷ xs)) (tt {0}) ≡ Err f)
  list_first found h = found_first (fault x) (first_of fault xs) found h

  pub list_later : (found : Option E) → unless_fault (fault x) (tt {0}) ≡ Ok (tt {0}) → IfSome found (λ f. unless_fault (first_of fault xs) (tt {0}) ≡ Err f)
      → IfSome found (λ f. unless_fault (first_of fault (x ∷ xs)) (tt {0}) ≡ Err f)
  list_later found e h = found_later (fault x) (first_of fault xs) found e h

  pub list_result : {G : Type 0} (named : G → Option E) (r : Result (Unit {0}) G) → unless_fault (fault x) (tt {0}) ≡ Ok (tt {0}) → OrMemory (λ done. done) named r (unless_fault (first_of fault xs) (tt {0}))
      → OrMemory (λ done. done) named r (unless_fault (first_of fault (x ∷ xs)) (tt {0}))
  list_result named r e h = result_later named r (fault x) (first_of fault xs) e h

pub list_last : {X E G : Type 0} (fault : X → Option E) (x : X) (named : G → Option E) (r : Result (Unit {0}) G) → OrMemory (λ done. done) named r (unless_fault (fault x) (tt {0}))
    → OrMemory (λ done. done) named r (unless_fault (first_of fault (x ∷ [])) (tt {0}))
list_last fault x named r h = subst (OrMemory (λ done. done) named r) (last (fault x)) h
