-- The least flagged element.
use Rattle.std.proofs.Common.{◌≡◌, ◌≢◌, ℕ, zero, suc, ◌+◌, ◌<◌, Bool, true, false, List, [], ◌∷◌, length, map, Option, None, Some, option_map, ◌⊎◌, inl, inr, refl, sym, ap, subst, ◌∙◌, arith, Bor}
use Rattle.std.specs.Prelude.{slice_get, if◌then◌else◌}
use Rattle.std.specs.declared.cmp.Ordering.{Ordering}
use Rattle.std.specs.declared.cmp.Ordering.TheVariants.{Less, Equal, Greater}
use Rattle.std.specs.Ordering.{is_gt, ordering_reverse}
use Rattle.std.specs.Cmp.{IsTotalOrder, nat_cmp_total, on_total, then_total}
use Rattle.std.specs.Cmp.Lexicographic.{nat_list_cmp_total}
use Rattle.std.proofs.lemmas.Option.{slice_get-map}
use Rattle.links.proofs.Members.{same_number}
use Rattle.circuit.specs.Cells.{PadCell}
use Rattle.attempts.specs.PinOrder.{rank_of, number_of, part_cmp, pin_cmp}
use Rattle.pin_rules.specs.Least.{IsLeastFlagged, LeastFlagged, is_after, lesser_of, part_order, pin_order, with_next}

-- the output pad with a number, where all are lent
pub output_at : (pads : List (Bor PadCell)) (all : List PadCell) (j : ℕ) → map (λ pad. pad.now) pads ≡ all → option_map (λ pad. pad.now) (slice_get pads j) ≡ slice_get all j
output_at pads all j is = sym (slice_get-map (λ (pad : Bor PadCell). pad.now) pads j) ∙ ap (λ xs. slice_get xs j) is

part_total : IsTotalOrder part_cmp
part_total = then_total (on_total (λ p. p.cell) nat_list_cmp_total) (then_total (on_total (λ p. rank_of p.part) nat_cmp_total) (on_total (λ p. number_of p.part) nat_cmp_total))

pub sources_total : IsTotalOrder part_order
sources_total = on_total (λ s. s.part) part_total

pin_total : IsTotalOrder pin_cmp
pin_total = then_total (on_total (λ p. p.part) part_total) (on_total (λ p. p.pin) nat_cmp_total)

pub pins_total : IsTotalOrder pin_order
pins_total = on_total (λ p. p.ref) pin_total

split : (i n : ℕ) → i < n + 1 → (i < n) ⊎ (i ≡ n)
split i n h = elim (same_number i n) [ inl e ↦ inr e | inr other ↦ inl (omega arith) ]

some_same : {X : Type 0} (x y : X) → Some x ≡ Some y → x ≡ y
some_same x y h = cc

true_false : true ≡ false → ⊥
true_false h = (let no : ⊥ = cc in no)

greater_is : (o : Ordering) → is_gt o ≡ true → o ≡ Greater
greater_is Less h = absurd (true_false (sym h))
greater_is Equal h = absurd (true_false (sym h))
greater_is Greater h = refl

no_greater : (o : Ordering) → is_gt o ≡ false → o ≢ Greater
no_greater o h e = true_false (sym (ap is_gt e) ∙ h)

module _ {X : Type 0} (cmp : X → X → Ordering) (total : IsTotalOrder cmp) where
  itself : (x : X) → cmp x x ≢ Greater
  itself x h = (let back : cmp x x ≡ ordering_reverse (cmp x x) = total.antisymm x x in let less : Greater ≡ Less = sym h ∙ (back ∙ ap ordering_reverse h) in let no : ⊥ = cc in no)

  which_less : (x y z : X) (o : Ordering) → cmp x y ≡ Less → cmp y z ≡ o → cmp x z ≡ Greater → o ≡ Greater
  which_less x y z Less h k g = (let less : cmp x z ≡ Less = total.trans x y z h k in let wrong : Less ≡ Greater = sym less ∙ g in let no : ⊥ = cc in absurd no)
  which_less x y z Greater h k g = refl
  which_less x y z Equal h k g =
      let same : cmp y x ≡ cmp z x = total.congr y z x k in
      let turned : cmp z x ≡ Less = total.antisymm z x ∙ ap ordering_reverse g in
      let back : cmp y x ≡ Greater = total.antisymm y x ∙ ap ordering_reverse h in
      let wrong : Less ≡ Greater = sym turned ∙ (sym same ∙ back) in
      let no : ⊥ = cc in absurd no

  module _ (xs : List X) (flag : ℕ → Bool) (n : ℕ) (x : X) (at : slice_get xs n ≡ Some x) where
    -- the next element isn't flagged
    passed : (least : Option ℕ) → LeastFlagged cmp xs (λ i. flag i ≡ true) n least → flag n ≡ false → LeastFlagged cmp xs (λ i. flag i ≡ true) (n + 1) least
    passed None so_far lowered = λ i below h. elim (split i n below) [
      | inl l ↦ so_far i l h
      | inr e ↦ true_false (sym h ∙ (ap flag e ∙ lowered))
    ]
    passed (Some m) so_far lowered = record {
      item = so_far.item;
      numbered = so_far.numbered;
      flagged = so_far.flagged;
      least = λ i y below there h. elim (split i n below) [
        | inl l ↦ so_far.least i y l there h
        | inr e ↦ absurd (true_false (sym h ∙ (ap flag e ∙ lowered)))
      ];
    }

    here : (i : ℕ) (y : X) → i ≡ n → slice_get xs i ≡ Some y → x ≡ y
    here i y e there = some_same x y (sym at ∙ (ap (slice_get xs) (sym e) ∙ there))

    -- it is the first that is flagged
    begins : LeastFlagged cmp xs (λ i. flag i ≡ true) n None → flag n ≡ true → IsLeastFlagged cmp xs (λ i. flag i ≡ true) (n + 1) n
    begins so_far raised = record {
      item = x;
      numbered = at;
      flagged = raised;
      least = λ i y below there h. elim (split i n below) [
        | inl l ↦ absurd (so_far i l h)
        | inr e ↦ subst (λ z. cmp x z ≢ Greater) (here i y e there) (itself x)
      ];
    }

    -- it doesn't come before the least one
    stays : (m : ℕ) → (so_far : IsLeastFlagged cmp xs (λ i. flag i ≡ true) n m) → cmp so_far.item x ≢ Greater → IsLeastFlagged cmp xs (λ i. flag i ≡ true) (n + 1) m
    stays m so_far before = record {
      item = so_far.item;
      numbered = so_far.numbered;
      flagged = so_far.flagged;
      least = λ i y below there h. elim (split i n below) [
        | inl l ↦ so_far.least i y l there h
        | inr e ↦ subst (λ z. cmp so_far.item z ≢ Greater) (here i y e there) before
      ];
    }

    -- it comes before the least one
    moves : (m : ℕ) → (so_far : IsLeastFlagged cmp xs (λ i. flag i ≡ true) n m) → cmp so_far.item x ≡ Greater → flag n ≡ true → IsLeastFlagged cmp xs (λ i. flag i ≡ true) (n + 1) n
    moves m so_far before raised = record {
      item = x;
      numbered = at;
      flagged = raised;
      least = λ i y below there h. elim (split i n below) [
        | inl l ↦ (
            let lower : cmp x so_far.item ≡ Less = total.antisymm x so_far.item ∙ ap ordering_reverse before in
            let after : cmp so_far.item y ≢ Greater = so_far.least i y l there h in
            λ greater. after (which_less x so_far.item y (cmp so_far.item y) lower refl greater)
            )
        | inr e ↦ subst (λ z. cmp x z ≢ Greater) (here i y e there) (itself x)
      ];
    }

    taken_by : (m : ℕ) (so_far : IsLeastFlagged cmp xs (λ i. flag i ≡ true) n m) (b : Bool) → flag n ≡ true → is_gt (cmp so_far.item x) ≡ b → is_after cmp (slice_get xs m) (slice_get xs n) ≡ b
        → IsLeastFlagged cmp xs (λ i. flag i ≡ true) (n + 1) (if is_after cmp (slice_get xs m) (slice_get xs n) then n else m)
    taken_by m so_far true raised gt is = subst (λ b. IsLeastFlagged cmp xs (λ i. flag i ≡ true) (n + 1) (if b then n else m)) (sym is) (moves m so_far (greater_is (cmp so_far.item x) gt) raised)
    taken_by m so_far false raised gt is = subst (λ b. IsLeastFlagged cmp xs (λ i. flag i ≡ true) (n + 1) (if b then n else m)) (sym is) (stays m so_far (no_greater (cmp so_far.item x) gt))

    -- the next element is flagged
    taken : (least : Option ℕ) → LeastFlagged cmp xs (λ i. flag i ≡ true) n least → flag n ≡ true → LeastFlagged cmp xs (λ i. flag i ≡ true) (n + 1) (Some (lesser_of cmp xs least n))
    taken None so_far raised = begins so_far raised
    taken (Some m) so_far raised =
        let is : is_after cmp (slice_get xs m) (slice_get xs n) ≡ is_gt (cmp so_far.item x) = ap (λ o. is_after cmp o (slice_get xs n)) so_far.numbered ∙ ap (is_after cmp (Some so_far.item)) at in
        taken_by m so_far (is_gt (cmp so_far.item x)) raised refl is

    looked_at : (least : Option ℕ) (b : Bool) → LeastFlagged cmp xs (λ i. flag i ≡ true) n least → flag n ≡ b → LeastFlagged cmp xs (λ i. flag i ≡ true) (n + 1) (with_next cmp xs least n b)
    looked_at least true so_far is = taken least so_far is
    looked_at least false so_far is = passed least so_far is

  element : (xs : List X) (i : ℕ) → i < length xs → (x : X) × (slice_get xs i ≡ Some x)
  element [] i h = absurd (omega arith)
  element (x ∷ xs) zero h = (x, refl)
  element (x ∷ xs) (suc i) h = element xs i (omega arith)

  -- one more element is looked at
  pub least_more : (xs lent : List X) (flag : ℕ → Bool) (n : ℕ) (least next : Option ℕ) (b : Bool) → n < length xs → lent ≡ xs → LeastFlagged cmp xs (λ i. flag i ≡ true) n least
      → b ≡ flag n → next ≡ with_next cmp lent least n b → LeastFlagged cmp xs (λ i. flag i ≡ true) (n + 1) next
  least_more xs lent flag n least next b below same so_far is made =
      let e = element xs n below in
      subst (LeastFlagged cmp xs (λ i. flag i ≡ true) (n + 1)) (sym (made ∙ ap (λ ys. with_next cmp ys least n b) same)) (looked_at xs flag n e.0 e.1 least b so_far (sym is))
