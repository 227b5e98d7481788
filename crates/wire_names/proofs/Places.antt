-- Places in a list, as a test of another list's elements finds them.
use Rattle.std.proofs.Common.{◌≡◌, ◌+◌, ℕ, Bool, true, false, not, cond, List, [], ◌∷◌, map, position, Option, None, Some, refl, sym, inl, inr}
use Rattle.std.specs.Prelude.{nat_lt}
use Rattle.std.specs.List.{prefix_len, list_any}
use Rattle.std.proofs.lemmas.Bool.{false≢true}
use Rattle.std.proofs.lemmas.List.{length-map}
use Rattle.words.specs.Members.{In}
use Rattle.fabric_laws.proofs.Members.{any_from, is_false}
use Rattle.fabric_laws.proofs.Numbered.{at_position, get_in, position_there}

-- two tests that follow from each other
pub same_test : (a b : Bool) → (a ≡ true → b ≡ true) → (b ≡ true → a ≡ true) → a ≡ b
same_test true b f g = sym (f refl)
same_test false b f g = sym (is_false b (λ e. false≢true (g e)))

module _ {X Y : Type 0} (p : X → Bool) (q : Y → Bool) (f : X → Y) where
  same_front : (xs : List X) → ((x : X) → In xs x → p x ≡ q (f x)) → prefix_len (λ x. not (p x)) xs ≡ prefix_len (λ y. not (q y)) (map f xs)
  same_front [] h = refl
  same_front (x ∷ xs) h =
      let here = h x (inl refl) in
      let rest = same_front xs (λ y i. h y (inr i)) in
      λ j. cond (not (here j)) (1 + rest j) 0

  -- the place is the same where the tests agree
  pub same_place : (xs : List X) → ((x : X) → In xs x → p x ≡ q (f x)) → position p xs ≡ position q (map f xs)
  same_place xs h =
      let front = same_front xs h in
      let len = sym (length-map xs f) in
      λ j. cond (nat_lt (front j) (len j)) (Some (front j)) None

module _ {X : Type 0} where
  -- there is no place where none passes
  pub no_place : (p : X → Bool) (xs : List X) → ((x : X) → In xs x → p x ≡ true → ⊥) → position p xs ≡ None
  no_place p xs none = go (position p xs) refl
    where
      go : (o : Option ℕ) → position p xs ≡ o → o ≡ None
      go None e = refl
      go (Some i) e = absurd (let r = at_position p xs i e in none r.0 (get_in xs i r.0 r.1.0) r.1.1)

  -- where there is no place, none passes
  pub none_at : (p : X → Bool) (xs : List X) → position p xs ≡ None → (x : X) → In xs x → p x ≡ true → ⊥
  none_at p xs h x i e = let r = position_there p xs x i e in let no : ⊥ = cc (r.1, h) in no

  pub none_any : (p : X → Bool) (xs : List X) → position p xs ≡ None → list_any p xs ≡ false
  none_any p xs h = is_false (list_any p xs) (λ e. let r = any_from p xs e in none_at p xs h r.0 r.1 r.2)
