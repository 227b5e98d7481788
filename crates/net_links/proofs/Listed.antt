-- Members of a list by their places, as loops meet them.
use Rattle.std.proofs.Common.{◌≡◌, ℕ, ◌+◌, ◌<◌, ◌≤◌, ◌↔◌, Bool, true, false, List, [], ◌∷◌, length, get_or, zero, suc, refl, sym, subst, ◌∙◌, inl, inr, arith, below_more}
use Rattle.std.proofs.lemmas.Bool.{false≢true}
use Rattle.std.proofs.lemmas.List.{get_or_default}
use Rattle.words.specs.Members.{In}
use Rattle.paths.specs.Wiring.{Wiring, IsArcOf, IsWiring}

-- what stands at a place is a member
pub in_at : (xs : List ℕ) (i : ℕ) → i < length xs → In xs (get_or xs i 0)
in_at [] i h = absurd (omega arith)
in_at (x ∷ xs) zero h = inl refl
in_at (x ∷ xs) (suc i) h = inr (in_at xs i (omega arith))

-- a member stands at some place
pub record PlaceOf (xs : List ℕ) (x : ℕ) : Type 0 where
  pub place : ℕ
  pub below : place < length xs
  pub is : get_or xs place 0 ≡ x

pub place_of : (xs : List ℕ) (x : ℕ) → In xs x → PlaceOf xs x
place_of [] x h = absurd h
place_of (y ∷ ys) x h = elim h [
  | inl e ↦ record { place = 0; below = omega arith; is = e }
  | inr j ↦ (let p = place_of ys x j in let b = p.below in record { place = suc p.place; below = omega arith; is = p.is })
]

-- what holds at each place holds of each member
pub each_member : (P : ℕ → Type 0) (xs : List ℕ) → ((k : ℕ) → k < length xs → P (get_or xs k 0)) → (x : ℕ) → In xs x → P x
each_member P xs all x h = let p = place_of xs x h in subst P p.is (all p.place p.below)

-- what is listed at a wire is an arc of it
pub listed_arc : (g : Wiring) (w a : ℕ) → IsWiring g → w < g.wires → In (g.outs w) a → IsArcOf g a
listed_arc g w a wiring below h =
    let e = sym (wiring.own w a below h) in
    record { below = subst (λ z. z < g.wires) e below; listed = subst (λ z. In (g.outs z) a) e h }

-- an element that a loop meets
pub met : (xs : List ℕ) (i x : ℕ) → i < length xs → x ≡ get_or xs i x → In xs x
met xs i x h e = let d = get_or_default xs i x 0 h in subst (In xs) (sym d ∙ sym e) (in_at xs i h)

pub met_at : (xs : List ℕ) (i x : ℕ) → i < length xs → x ≡ get_or xs i x → get_or xs i 0 ≡ x
met_at xs i x h e = sym (get_or_default xs i x 0 h) ∙ sym e

-- the answer of a loop that tests each element
abbrev pub TellsAll : (ℕ → Type 0) → List ℕ → Bool → Type 0
TellsAll P xs answer = (answer ≡ true) ↔ ((x : ℕ) → In xs x → P x)

pub all_hold : (P : ℕ → Type 0) (xs : List ℕ) (n : ℕ) → length xs ≤ n → ((k : ℕ) → k < n → P (get_or xs k 0)) → TellsAll P xs true
all_hold P xs n le h = ((λ e. each_member P xs (λ k l. h k (omega arith))), (λ a. refl))

pub one_fails : (P : ℕ → Type 0) (xs : List ℕ) (i x : ℕ) → i < length xs → x ≡ get_or xs i x → (P x → ⊥) → TellsAll P xs false
one_fails P xs i x h e n = ((λ f. absurd (false≢true f)), (λ a. absurd (n (a x (met xs i x h e)))))

-- one more element passes
pub one_more_holds : (P : ℕ → Type 0) (xs : List ℕ) (i x : ℕ) → i < length xs → x ≡ get_or xs i x → P x → ((k : ℕ) → k < i → P (get_or xs k 0)) → (k : ℕ) → k < i + 1 → P (get_or xs k 0)
one_more_holds P xs i x h e p before = below_more (λ k. P (get_or xs k 0)) i before (subst P (sym (met_at xs i x h e)) p)
