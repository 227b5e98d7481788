-- Digits at the front of a text.
use Rattle.std.proofs.Common.{◌≡◌, ◌≢◌, ℕ, ◌+◌, ◌<◌, Bool, true, false, cond, ◌&&◌, List, [], ◌∷◌, ◌++◌, length, take, drop, take_while, Some, None, refl, sym, ap, ◌∙◌, arith, one-add}
use Rattle.std.specs.List.{list_all, prefix_len}
use Rattle.std.specs.Prelude.{if◌then◌else◌, nat_lt, nat_le}
use Rattle.std.proofs.lemmas.Bool.{and_parts}
use Rattle.std.proofs.lemmas.List.{take-append-drop}
use Rattle.std.proofs.lemmas.List.Folds.{length-prefix_len}
use Rattle.texts.specs.Numbers.{is_digit, is_number, value_of, number_up_to}

take_while-cons : (p : ℕ → Bool) (x : ℕ) (xs : List ℕ) → p x ≡ true → take_while p (x ∷ xs) ≡ x ∷ take_while p xs
take_while-cons p x xs e = ap (λ b. take (cond b (1 + prefix_len p xs) 0) (x ∷ xs)) e ∙ ap (λ n. take n (x ∷ xs)) (one-add (prefix_len p xs))

take_while-stop : (p : ℕ → Bool) (x : ℕ) (xs : List ℕ) → p x ≡ false → take_while p (x ∷ xs) ≡ []
take_while-stop p x xs e = ap (λ b. take (cond b (1 + prefix_len p xs) 0) (x ∷ xs)) e

-- what passes in front of a byte that doesn't is taken
pub taken : (p : ℕ → Bool) (xs : List ℕ) (b : ℕ) (more : List ℕ) → list_all p xs ≡ true → p b ≡ false → take_while p (xs ++ b ∷ more) ≡ xs
taken p [] b more h e = take_while-stop p b more e
taken p (x ∷ xs) b more h e =
    let parts = and_parts (p x) (list_all p xs) h in
    take_while-cons p x (xs ++ b ∷ more) parts.0 ∙ ap (λ ys. x ∷ ys) (taken p xs b more parts.1 e)

-- a text is what is taken of it, and what is left
pub split : (p : ℕ → Bool) (xs : List ℕ) → xs ≡ take_while p xs ++ drop (length (take_while p xs)) xs
split p xs = sym (ap (λ n. take_while p xs ++ drop n xs) (length-prefix_len p xs) ∙ take-append-drop (prefix_len p xs) xs)

if_some : {X : Type 0} (b : Bool) (v n : X) → (if b then Some v else None) ≡ Some n → b ≡ true
if_some true v n h = refl
if_some false v n h = absurd (let no : ⊥ = cc in no)

-- a number's digits are digits
pub number_digits : (most : ℕ) (digits : List ℕ) (n : ℕ) → number_up_to most digits ≡ Some n → list_all is_digit digits ≡ true
number_digits most digits n h =
    let t = if_some (is_number digits && nat_le (value_of digits) most) (value_of digits) n h in
    let word = (and_parts (is_number digits) (nat_le (value_of digits) most) t).0 in
    (and_parts (nat_lt 0 (length digits) && nat_le (length digits) 10) (list_all is_digit digits) word).1

pub has_length : (xs : List ℕ) → xs ≢ [] → 0 < length xs
has_length [] h = absurd (h refl)
has_length (x ∷ xs) h = omega arith
