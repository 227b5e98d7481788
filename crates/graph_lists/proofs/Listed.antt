-- The numbers of the elements that pass a test.
use Rattle.std.proofs.Common.{◌≡◌, ℕ, ◌+◌, ◌<◌, ◌≤◌, Bool, true, false, cond, List, [], ◌∷◌, map, filter, Some, inl, inr, refl, ap, subst, arith}
use Rattle.std.specs.Prelude.{◌==◌, slice_get}
use Rattle.std.specs.List.{enumerate_from}
use Rattle.std.specs.Ordering.{nat_cmp}
use Rattle.std.specs.declared.cmp.Ordering.{Ordering}
use Rattle.std.specs.declared.cmp.Ordering.TheVariants.{Less, Equal}
use Rattle.std.proofs.lemmas.Bool.{eqb-true, eq-eqb, lt-ltb, le-ltb}
use Rattle.words.specs.Members.{In}
use Rattle.links.proofs.Members.{in_map, of_map}
use Rattle.fabric.specs.InOrder.{IsRising}
use Rattle.fabric_laws.proofs.Members.{in_filter_from, in_filter_to}
use Rattle.fabric_laws.proofs.Numbered.{entry_to, entry_is}
use Rattle.graph_lists.specs.Places.{places}

pub less_is : (a b : ℕ) → a < b → nat_cmp a b ≡ Less
less_is a b l = rw (lt-ltb a b l) refl

pub equal_is : (a b : ℕ) → a ≡ b → nat_cmp a b ≡ Equal
equal_is a b e = rw (le-ltb a b (omega arith), eq-eqb a b e) refl

module _ {X : Type 0} (p : X → Bool) (xs : List X) where
  pub place_from : (i : ℕ) → In (places p xs) i → (x : X) × ((slice_get xs i ≡ Some x) × (p x ≡ true))
  place_from i h =
      let found = of_map (λ (e : ℕ × X). e.0) (filter (λ e. p e.1) (enumerate_from 0 xs)) i h in
      let passes = in_filter_from (λ (e : ℕ × X). p e.1) (enumerate_from 0 xs) found.0 found.1.0 in
      (found.0.1, (subst (λ n. slice_get xs n ≡ Some found.0.1) found.1.1 (entry_is xs found.0.0 found.0.1 passes.0), passes.1))

  pub place_to : (i : ℕ) (x : X) → slice_get xs i ≡ Some x → p x ≡ true → In (places p xs) i
  place_to i x here passes =
      in_map (λ (e : ℕ × X). e.0) (filter (λ e. p e.1) (enumerate_from 0 xs)) (i, x)
      (in_filter_to (λ (e : ℕ × X). p e.1) (enumerate_from 0 xs) (i, x) (entry_to xs i x here) passes)

-- what is made of those of a rising list that pass rises, where each step does
pub rising_map_filter : {X Y : Type 0} (cmp : X → X → Ordering) (other : Y → Y → Ordering) (p : X → Bool) (f : X → Y)
    → ((x y : X) → p x ≡ true → p y ≡ true → cmp x y ≡ Less → other (f x) (f y) ≡ Less)
    → (xs : List X) → IsRising cmp xs → IsRising other (map f (filter p xs))
rising_map_filter cmp other p f step [] rising = tt
rising_map_filter {X} {Y} cmp other p f step (x ∷ xs) rising = go (p x) refl (rising_map_filter cmp other p f step xs rising.1)
  where
    later : p x ≡ true → (y : Y) → In (map f (filter p xs)) y → other (f x) y ≡ Less
    later e y i =
        let found = of_map f (filter p xs) y i in
        let passes = in_filter_from p xs found.0 found.1.0 in
        subst (λ z. other (f x) z ≡ Less) found.1.1 (step x found.0 e passes.1 (rising.0 found.0 passes.0))

    go : (b : Bool) → p x ≡ b → IsRising other (map f (filter p xs)) → IsRising other (map f (cond b (x ∷ filter p xs) (filter p xs)))
    go true e rest = (later e, rest)
    go false e rest = rest

-- no number of a list is below its start
pub not_before : {X : Type 0} (xs : List X) (n i : ℕ) (x : X) → In (enumerate_from n xs) (i, x) → n ≤ i
not_before [] n i x h = absurd h
not_before (y ∷ ys) n i x h = elim h [
  | inl e ↦ (let same : n ≡ i = ap (λ p. p.0) e in omega arith)
  | inr j ↦ (let later = not_before ys (n + 1) i x j in omega arith)
]

numbers_rise : {X : Type 0} (n : ℕ) (xs : List X) → IsRising (λ (a b : ℕ × X). nat_cmp a.0 b.0) (enumerate_from n xs)
numbers_rise n [] = tt
numbers_rise n (x ∷ xs) = ((λ e i. less_is n e.0 (let later = not_before xs (n + 1) e.0 e.1 i in omega arith)), numbers_rise (n + 1) xs)

-- places rise
pub places_rise : {X : Type 0} (p : X → Bool) (xs : List X) → IsRising nat_cmp (places p xs)
places_rise {X} p xs =
    rising_map_filter (λ (a b : ℕ × X). nat_cmp a.0 b.0) nat_cmp (λ (e : ℕ × X). p e.1) (λ (e : ℕ × X). e.0) (λ a b passes passes' less. less)
    (enumerate_from 0 xs) (numbers_rise 0 xs)

-- the places where a key has a number
module _ {X : Type 0} (key : X → ℕ) (xs : List X) (k : ℕ) where
  pub key_from : (i : ℕ) → In (places (λ x. key x == k) xs) i → (x : X) × ((slice_get xs i ≡ Some x) × (key x ≡ k))
  key_from i h = let found = place_from (λ x. key x == k) xs i h in (found.0, (found.1.0, eqb-true (key found.0) k found.1.1))

  pub key_to : (i : ℕ) (x : X) → slice_get xs i ≡ Some x → key x ≡ k → In (places (λ x. key x == k) xs) i
  key_to i x here same = place_to (λ x. key x == k) xs i x here (eq-eqb (key x) k same)
