-- A number that stands in a list twice is counted twice. So where the check of overlaps refuses nothing no output stands
-- twice, and the other way round.
use Rattle.std.proofs.Common.{◌≡◌, ℕ, suc, ◌+◌, ◌≤◌, Bool, true, false, List, [], ◌∷◌, cond, ◌⊎◌, inl, inr, refl, sym, subst, arith}
use Rattle.std.specs.Prelude.{count_by, nat_eq}
use Rattle.std.specs.Ordering.{nat_cmp}
use Rattle.std.proofs.lemmas.Bool.Decides.{nat_tests}
use Rattle.std.proofs.lemmas.List.Sums.{sum_by-cons}
use Rattle.words.specs.Members.{In}
use Rattle.words.specs.Twice.{HasNoneTwice}
use Rattle.fabric.specs.Device.{Device}
use Rattle.fabric.specs.Graph.{Graph}
use Rattle.fabric.specs.GraphOf.{outputs_of, IsGraph}
use Rattle.answers.specs.Refusals.{OverlapShape}
use Rattle.design_checks.specs.Checks.{Passes, IsLeast}
use Rattle.design_checks.specs.GraphChecks.{IsOutputTwice, Overlap, overlap}
use Rattle.formed_laws.specs.Designs.{NoOverlap}
use Rattle.check_laws.proofs.Least.{no_least_number}
use Rattle.check_laws.proofs.RoutingRules.{site_output_wire}

itself : (n : ℕ) → nat_eq n n ≡ true
itself n = grind (arith, nat_tests)

is_itself : (m n : ℕ) → nat_eq m n ≡ true → m ≡ n
is_itself m n h = grind (arith, nat_tests)

-- one more where the head is counted
counted : (b : Bool) (k : ℕ) → b ≡ true → cond b 1 0 + k ≡ suc k
counted true k h = omega arith
counted false k h = absurd (let no : ⊥ = cc in no)

passed_over : (b : Bool) (k : ℕ) → k ≤ cond b 1 0 + k
passed_over true k = omega arith
passed_over false k = omega arith

abbrev times : ℕ → List ℕ → ℕ
times w xs = count_by (nat_eq w) xs

-- the head is counted where it is the number, and then the rest
times_cons : (w x : ℕ) (xs : List ℕ) → times w (x ∷ xs) ≡ cond (nat_eq w x) 1 0 + times w xs
times_cons w x xs = sum_by-cons (λ z. cond (nat_eq w z) 1 0) x xs

-- what stands in a list is counted
pub in_counted : (xs : List ℕ) (w : ℕ) → In xs w → 1 ≤ times w xs
in_counted [] w i = absurd i
in_counted (x ∷ xs) w i = elim i [
  | inl e ↦ (let t = times_cons w x xs in let c : cond (nat_eq w x) 1 0 + times w xs ≡ suc (times w xs) = counted (nat_eq w x) (times w xs) (subst (λ z. nat_eq w z ≡ true) (sym e) (itself w)) in omega arith)
  | inr j ↦ (let t = times_cons w x xs in let h : 1 ≤ times w xs = in_counted xs w j in let k : times w xs ≤ cond (nat_eq w x) 1 0 + times w xs = passed_over (nat_eq w x) (times w xs) in omega arith)
]

head_counts : (b : Bool) (k : ℕ) → 1 ≤ cond b 1 0 + k → (b ≡ true) ⊎ (1 ≤ k)
head_counts true k h = inl refl
head_counts false k h = inr (let g : 1 ≤ k = omega arith in g)

pub counted_in : (xs : List ℕ) (w : ℕ) → 1 ≤ times w xs → In xs w
counted_in [] w h = absurd (let no : ⊥ = omega arith in no)
counted_in (x ∷ xs) w h = elim (head_counts (nat_eq w x) (times w xs) (subst (λ n. 1 ≤ n) (times_cons w x xs) h)) [
  | inl e ↦ inl (sym (is_itself w x e))
  | inr k ↦ inr (counted_in xs w k)
]

head_twice : (b : Bool) (k : ℕ) → 2 ≤ cond b 1 0 + k → ((b ≡ true) × (1 ≤ k)) ⊎ (2 ≤ k)
head_twice true k h = inl (refl, (let g : 1 ≤ k = omega arith in g))
head_twice false k h = inr (let g : 2 ≤ k = omega arith in g)

-- nothing is counted twice where nothing stands twice
pub not_counted_twice : (xs : List ℕ) (w : ℕ) → HasNoneTwice xs → 2 ≤ times w xs → ⊥
not_counted_twice [] w none h = (let no : ⊥ = omega arith in no)
not_counted_twice (x ∷ xs) w none h = elim (head_twice (nat_eq w x) (times w xs) (subst (λ n. 2 ≤ n) (times_cons w x xs) h)) [
  | inl k ↦ none.0 (subst (In xs) (is_itself w x k.0) (counted_in xs w k.1))
  | inr k ↦ not_counted_twice xs w none.1 k
]

pub none_twice : (xs : List ℕ) → ((w : ℕ) → 2 ≤ times w xs → ⊥) → HasNoneTwice xs
none_twice [] h = tt
none_twice (x ∷ xs) h = (
  (λ i. h x (let g : 1 ≤ times x xs = in_counted xs x i in
      let c : cond (nat_eq x x) 1 0 + times x xs ≡ suc (times x xs) = counted (nat_eq x x) (times x xs) (itself x) in
      let t : 2 ≤ cond (nat_eq x x) 1 0 + times x xs = omega arith in subst (λ n. 2 ≤ n) (sym (times_cons x x xs)) t)),
  none_twice xs (λ w k. h w (let p : times w xs ≤ cond (nat_eq w x) 1 0 + times w xs = passed_over (nat_eq w x) (times w xs) in
      let t : 2 ≤ cond (nat_eq w x) 1 0 + times w xs = omega arith in subst (λ n. 2 ≤ n) (sym (times_cons w x xs)) t)),
)

module _ (device : Device) (g : Graph) where
  pub no_overlap : IsGraph device g → Passes (Overlap device g) → NoOverlap device g
  no_overlap is pass = none_twice (outputs_of device g.wires) (no_least_number (IsOutputTwice device g) none)
    where
      none : (w : ℕ) → IsLeast nat_cmp (IsOutputTwice device g) w → ⊥
      none w l =
          let h : 2 ≤ times w (outputs_of device g.wires) = l.has in
          let wire = site_output_wire device g is w (counted_in (outputs_of device g.wires) w (let once : 1 ≤ times w (outputs_of device g.wires) = omega arith in once)) in
          pass (OverlapShape wire.0) (overlap w wire.0 l wire.1)

  pub overlap_passes : NoOverlap device g → Passes (Overlap device g)
  overlap_passes none _ (overlap w wire l e) = not_counted_twice (outputs_of device g.wires) w none l.has
