-- A list is read one element after another: the first element, then the rest.
use Rattle.std.proofs.Common.{◌≡◌, List, [], ◌∷◌, ◌++◌, Option, Some, None, option_map, Result, Ok, Err, refl, ap, sym, append_assoc}
use Rattle.std.specs.Result.{result_ok, result_err}
use Rattle.std.specs.List.{cons_option}
use Rattle.words.specs.Firsts.{first_fault_after, or_else, unless_fault}
use Rattle.json_forms.specs.Results.{◌>>=◌}
use Rattle.json_forms.specs.Each.{each, each_or_fault}

-- where no element is judged by those before it, these don't matter
before_is_free : {X E : Type 0} (fault : X → Option E) (xs before other : List X)
    → first_fault_after (λ _ x. fault x) before xs ≡ first_fault_after (λ _ x. fault x) other xs
before_is_free fault [] before other = refl
before_is_free fault (x ∷ xs) before other = rw (before_is_free fault xs (before ++ x ∷ []) (other ++ x ∷ []))

first_then_rest : {Y F : Type 0} (r : Result Y F) (rest : Option F) (values : List Y)
    → unless_fault (or_else (result_err r) rest) (cons_option (result_ok r) values)
    ≡ (r >>= λ y. unless_fault rest values >>= λ ys. Ok (y ∷ ys))
first_then_rest (Ok y) None values = refl
first_then_rest (Ok y) (Some e) values = refl
first_then_rest (Err e) rest values = refl

pub each_or_fault-cons : {X Y F : Type 0} (f : X → Result Y F) (x : X) (xs : List X)
    → each_or_fault f (x ∷ xs) ≡ (f x >>= λ y. each_or_fault f xs >>= λ ys. Ok (y ∷ ys))
each_or_fault-cons f x xs =
    rw (before_is_free (λ z. result_err (f z)) xs ([] ++ x ∷ []) []) (first_then_rest (f x) _ _)

-- values that were read, in front of those of the rest
abbrev pub behind : {Y F : Type 0} → List Y → Result (List Y) F → Result (List Y) F
behind values rest = rest >>= λ ys. Ok (values ++ ys)

behind_value : {Y F : Type 0} (values : List Y) (y : Y) (rest : Result (List Y) F)
    → behind values (rest >>= λ ys. Ok (y ∷ ys)) ≡ behind (values ++ y ∷ []) rest
behind_value values y (Ok ys) = ap Ok (sym (append_assoc values (y ∷ []) ys))
behind_value values y (Err e) = refl

-- an element with a value
pub one_more : {X Y F : Type 0} (f : X → Result Y F) (values : List Y) (x : X) (xs : List X) (y : Y) → f x ≡ Ok y
    → behind values (each_or_fault f (x ∷ xs)) ≡ behind (values ++ y ∷ []) (each_or_fault f xs)
one_more f values x xs y e = rw (each_or_fault-cons f x xs, e) (behind_value values y (each_or_fault f xs))

-- an element with a fault
pub one_faulty : {X Y F : Type 0} (f : X → Result Y F) (values : List Y) (x : X) (xs : List X) (e : F) → f x ≡ Err e
    → behind values (each_or_fault f (x ∷ xs)) ≡ Err e
one_faulty f values x xs e is = rw (each_or_fault-cons f x xs, is) refl

-- values that were found, in front of those of the rest
abbrev pub joined : {Y : Type 0} → List Y → Option (List Y) → Option (List Y)
joined values rest = option_map (λ ys. values ++ ys) rest

joined_value : {Y : Type 0} (values : List Y) (y : Y) (rest : Option (List Y))
    → joined values (option_map (λ ys. y ∷ ys) rest) ≡ joined (values ++ y ∷ []) rest
joined_value values y None = refl
joined_value values y (Some ys) = ap Some (sym (append_assoc values (y ∷ []) ys))

-- an element with a value
pub one_more_found : {X Y : Type 0} (f : X → Option Y) (values : List Y) (x : X) (xs : List X) (y : Y) → f x ≡ Some y
    → joined values (each f (x ∷ xs)) ≡ joined (values ++ y ∷ []) (each f xs)
one_more_found f values x xs y e = rw e (joined_value values y (each f xs))

-- an element without one
pub one_unfit : {X Y : Type 0} (f : X → Option Y) (values : List Y) (x : X) (xs : List X) → f x ≡ None
    → joined values (each f (x ∷ xs)) ≡ None
one_unfit f values x xs e = rw e refl
