-- What feeds pins are known parts.
use Rattle.std.proofs.Common.{◌≡◌, ◌<◌, ℕ, Bool, true, false, List, [], ◌∷◌, length, Option, None, Some, inl, inr, refl, sym, ap₂, ◌∙◌, subst, arith, tests, ◌&&◌}
use Rattle.std.specs.Prelude.{nat_lt}
use Rattle.std.specs.List.{list_all}
use Rattle.words.specs.Members.{In}
use Rattle.circuit.specs.Cells.{Cells}
use Rattle.circuit.specs.Parts.{sources}
use Rattle.net_order.specs.Orders.{AreKnown}
use Rattle.circuit_checks.specs.Rules.{is_known_in}

both : (a b : Bool) → (a && b) ≡ true → (a ≡ true) × (b ≡ true)
both true b h = (refl, h)
both false b h = (let no : ⊥ = cc in absurd no)

below : (k count : ℕ) → nat_lt k count ≡ true → k < count
below k count h = grind (arith, tests)

each_known : (count : ℕ) (feeds : List (Option ℕ)) → list_all (is_known_in count) feeds ≡ true → (k : ℕ) → In feeds (Some k) → k < count
each_known count [] h k i = absurd i
each_known count (feed ∷ feeds) h k i =
    let parts = both (is_known_in count feed) (list_all (is_known_in count) feeds) h in
    elim i [
      | inl e ↦ below k count (subst (λ o. is_known_in count o ≡ true) e parts.0)
      | inr j ↦ each_known count feeds parts.1 k j
    ]

pub all_known : (cells : Cells) (feeds : List (Option ℕ)) (count : ℕ) → count ≡ length (sources cells) → list_all (is_known_in count) feeds ≡ true → AreKnown cells feeds
all_known cells feeds count e h = λ k i. subst (λ n. k < n) e (each_known count feeds h k i)

-- the other way round
above : (k count : ℕ) → k < count → nat_lt k count ≡ true
above k count h = grind (arith, tests)

test_passes : (count : ℕ) (feeds : List (Option ℕ)) → ((k : ℕ) → In feeds (Some k) → k < count) → list_all (is_known_in count) feeds ≡ true
test_passes count [] h = refl
test_passes count (None ∷ feeds) h = test_passes count feeds (λ k i. h k (inr i))
test_passes count (Some j ∷ feeds) h = ap₂ (λ a b. a && b) (above j count (h j (inl refl))) (test_passes count feeds (λ k i. h k (inr i)))

pub unknown : (cells : Cells) (feeds : List (Option ℕ)) (count : ℕ) → count ≡ length (sources cells) → list_all (is_known_in count) feeds ≡ false → AreKnown cells feeds → ⊥
unknown cells feeds count e h known =
    let t : list_all (is_known_in count) feeds ≡ true = test_passes count feeds (λ k i. subst (λ n. k < n) (sym e) (known k i)) in
    let no : true ≡ false = sym t ∙ h in
    let wrong : ⊥ = cc in wrong
