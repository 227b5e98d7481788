-- Elements by their numbers: where a list is numbered, and where the first that passes a test stands.
use Rattle.std.proofs.Common.{◌≡◌, ℕ, suc, zero, ◌+◌, ◌<◌, ◌≤◌, Bool, true, false, cond, inl, inr, List, [], ◌∷◌, length, Some, None, position, nat_lt, refl, sym, ap, ap₂, subst, ◌∙◌, arith, add-zero}
use Rattle.std.specs.Prelude.{slice_get, not}
use Rattle.std.specs.List.{enumerate_from, position_or_len}
use Rattle.std.proofs.lemmas.Bool.{false≢true, ltb-true, lt-ltb}
use Rattle.std.proofs.lemmas.Option.{slice_get_cases}
use Rattle.std.proofs.lemmas.List.Quantifiers.{position-Some}
use Rattle.words.specs.Members.{In}

no_less : {X : Type 0} (xs : List X) (n i : ℕ) (x : X) → In (enumerate_from n xs) (i, x) → n ≤ i
no_less [] n i x h = absurd h
no_less (y ∷ ys) n i x h = elim h [
  | inl e ↦ (let same : n ≡ i = ap (λ p. p.0) e in omega arith)
  | inr j ↦ (let later = no_less ys (n + 1) i x j in omega arith)
]

-- a number stands for one element
pub one_entry : {X : Type 0} (xs : List X) (n i : ℕ) (x y : X) → In (enumerate_from n xs) (i, x) → In (enumerate_from n xs) (i, y) → x ≡ y
one_entry [] n i x y h k = absurd h
one_entry (z ∷ zs) n i x y h k = elim h [
  | inl e ↦ elim k [
    | inl f ↦ sym (ap (λ p. p.1) e) ∙ ap (λ p. p.1) f
    | inr j ↦ (let later = no_less zs (n + 1) i y j in let same : n ≡ i = ap (λ p. p.0) e in absurd (omega arith))
  ]
  | inr j ↦ elim k [
    | inl f ↦ (let later = no_less zs (n + 1) i x j in let same : n ≡ i = ap (λ p. p.0) f in absurd (omega arith))
    | inr l ↦ one_entry zs (n + 1) i x y j l
  ]
]

entry_from : {X : Type 0} (xs : List X) (n k : ℕ) (x : X) → slice_get xs k ≡ Some x → In (enumerate_from n xs) (n + k, x)
entry_from [] n k x h = absurd (let no : ⊥ = cc in no)
entry_from (y ∷ ys) n zero x h = inl (let same : y ≡ x = cc in ap₂ (λ (a : ℕ) b. (a, b)) (sym (add-zero n)) same)
entry_from (y ∷ ys) n (suc k) x h = inr (let e : (n + 1) + k ≡ n + suc k = omega arith in subst (λ m. In (enumerate_from (n + 1) ys) (m, x)) e (entry_from ys (n + 1) k x h))

-- the element of a number is in the numbered list
pub entry_to : {X : Type 0} (xs : List X) (i : ℕ) (x : X) → slice_get xs i ≡ Some x → In (enumerate_from 0 xs) (i, x)
entry_to xs i x h = let e : 0 + i ≡ i = omega arith in subst (λ m. In (enumerate_from 0 xs) (m, x)) e (entry_from xs 0 i x h)

-- an entry behind the first
get_entry : {X : Type 0} (xs : List X) (n i : ℕ) (x : X) → In (enumerate_from n xs) (i, x) → (k : ℕ) × ((i ≡ n + k) × (slice_get xs k ≡ Some x))
get_entry [] n i x h = absurd h
get_entry (y ∷ ys) n i x h = elim h [
  | inl e ↦ (0, ((let same : n ≡ i = ap (λ p. p.0) e in omega arith), ap (λ p. Some p.1) e))
  | inr j ↦ (let r = get_entry ys (n + 1) i x j in (suc r.0, ((let e = r.1.0 in omega arith), r.1.1)))
]

pub entry_is : {X : Type 0} (xs : List X) (i : ℕ) (x : X) → In (enumerate_from 0 xs) (i, x) → slice_get xs i ≡ Some x
entry_is xs i x h = let r = get_entry xs 0 i x h in let e : i ≡ r.0 = (let f = r.1.0 in omega arith) in ap (slice_get xs) e ∙ r.1.1

pub get_in : {X : Type 0} (xs : List X) (i : ℕ) (x : X) → slice_get xs i ≡ Some x → In xs x
get_in [] i x h = absurd (let no : ⊥ = cc in no)
get_in (y ∷ ys) zero x h = inl (let same : y ≡ x = cc in same)
get_in (y ∷ ys) (suc i) x h = inr (get_in ys i x h)

within : (b : Bool) (m i : ℕ) → cond b (Some m) None ≡ Some i → (b ≡ true) × (m ≡ i)
within true m i h = (refl, (let same : m ≡ i = cc in same))
within false m i h = absurd (let no : ⊥ = cc in no)

-- the element at the place of the first that passes
pub at_position : {X : Type 0} (p : X → Bool) (xs : List X) (i : ℕ) → position p xs ≡ Some i → (x : X) × ((slice_get xs i ≡ Some x) × (p x ≡ true))
at_position p xs i h = elim (slice_get_cases xs i).1 [
  | inl r ↦ (r.0, (r.2, subst (λ z. p z ≡ true) r.3 (position-Some p xs i r.0 h).1))
  | inr r ↦ absurd (let w = within (nat_lt (position_or_len p xs) (length xs)) (position_or_len p xs) i h in
      let less = ltb-true (position_or_len p xs) (length xs) w.0 in
      let same = w.1 in
      let more = r.0 in
      omega arith)
]

first_below : {X : Type 0} (p : X → Bool) (xs : List X) (x : X) → In xs x → p x ≡ true → position_or_len p xs < length xs
first_below p [] x i e = absurd i
first_below p (y ∷ ys) x i e = go (p y) refl i (λ j. first_below p ys x j e)
  where
    go : (b : Bool) → p y ≡ b → In (y ∷ ys) x → (In ys x → position_or_len p ys < length ys) → cond (not b) (1 + position_or_len p ys) 0 < suc (length ys)
    go true k i ih = omega arith
    go false k i ih = elim i [ inl s ↦ absurd (false≢true (sym k ∙ ap p s ∙ e)) | inr j ↦ (let less = ih j in omega arith) ]

-- where an element passes, there is a first that does
pub position_there : {X : Type 0} (p : X → Bool) (xs : List X) (x : X) → In xs x → p x ≡ true → (i : ℕ) × (position p xs ≡ Some i)
position_there p xs x i e =
    (position_or_len p xs, ap (λ b. cond b (Some (position_or_len p xs)) None) (lt-ltb (position_or_len p xs) (length xs) (first_below p xs x i e)))

-- an element has a number
pub number_there : {X : Type 0} (xs : List X) (x : X) → In xs x → (i : ℕ) × (slice_get xs i ≡ Some x)
number_there [] x h = absurd h
number_there (y ∷ ys) x h = elim h [ inl e ↦ (0, ap (λ z. Some z) e) | inr j ↦ (let r = number_there ys x j in (suc r.0, r.1)) ]
