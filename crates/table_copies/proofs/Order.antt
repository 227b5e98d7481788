-- The order of parts is total, and insertion in it.
use Rattle.std.proofs.Common.{◌≡◌, ℕ, zero, suc, ◌+◌, ◌<◌, ◌≤◌, List, [], ◌∷◌, length, map, get_or, Some, option_map, ◌⊎◌, inl, inr, refl, sym, ap, subst, ◌∙◌, arith}
use Rattle.std.specs.Prelude.{slice_get, insert}
use Rattle.std.specs.declared.cmp.Ordering.{Ordering}
use Rattle.std.specs.declared.cmp.Ordering.TheVariants.{Less, Equal, Greater}
use Rattle.std.specs.Ordering.{nat_cmp, ordering_then, ordering_reverse, match_ordering}
use Rattle.std.specs.Cmp.{IsTotalOrder, nat_cmp_total, on_total, then_total}
use Rattle.std.specs.Cmp.Lexicographic.{nat_list_cmp_total}
use Rattle.std.specs.FinMap.{nat_cmp-IsAntisymmetric}
use Rattle.std.proofs.lemmas.Option.{none-some, same_Some, slice_get-map, slice_get_past, slice_get_read}
use Rattle.words.specs.Members.{In}
use Rattle.links.proofs.Members.{same_number}
use Rattle.fabric.specs.Wires.{name_cmp}
use Rattle.fabric.specs.InOrder.{IsRising}
use Rattle.fabric_laws.specs.Insertion.{inserted}
use Rattle.fabric_laws.proofs.Orders.{first_ties, second_ties, name_same}
use Rattle.circuit.specs.Parts.{PartKind, Table, Register, Pad, PartRef, Source}
use Rattle.attempts.specs.PinOrder.{rank_of, number_of, part_cmp}
use Rattle.table_copies.specs.Places.{IsAfter}

pub part_total : IsTotalOrder part_cmp
part_total = then_total (on_total (λ p. p.cell) nat_list_cmp_total) (then_total (on_total (λ p. rank_of p.part) nat_cmp_total) (on_total (λ p. number_of p.part) nat_cmp_total))

-- ---- parts that tie are one

kind_same : (x y : PartKind) → rank_of x ≡ rank_of y → number_of x ≡ number_of y → x ≡ y
kind_same (Table m) (Table n) e f = ap Table f
kind_same (Table m) (Register n) e f = absurd (let no : ⊥ = cc in no)
kind_same (Table m) Pad e f = absurd (let no : ⊥ = cc in no)
kind_same (Register m) (Table n) e f = absurd (let no : ⊥ = cc in no)
kind_same (Register m) (Register n) e f = ap Register f
kind_same (Register m) Pad e f = absurd (let no : ⊥ = cc in no)
kind_same Pad (Table n) e f = absurd (let no : ⊥ = cc in no)
kind_same Pad (Register n) e f = absurd (let no : ⊥ = cc in no)
kind_same Pad Pad e f = refl

pub part_same : (a b : PartRef) → part_cmp a b ≡ Equal → a ≡ b
part_same a b h =
    let ranks = nat_cmp (rank_of a.part) (rank_of b.part) in
    let numbers = nat_cmp (number_of a.part) (number_of b.part) in
    let cells = name_same a.cell b.cell (first_ties (name_cmp a.cell b.cell) (ordering_then ranks numbers) h) in
    let rest = second_ties (name_cmp a.cell b.cell) (ordering_then ranks numbers) h in
    let kinds = kind_same a.part b.part (nat_cmp-IsAntisymmetric (rank_of a.part) (rank_of b.part) (first_ties ranks numbers rest)) (nat_cmp-IsAntisymmetric (number_of a.part) (number_of b.part) (second_ties ranks numbers rest)) in
    λ i. record { cell = cells i; part = kinds i }

ties : (o : Ordering) → o ≡ ordering_reverse o → o ≡ Equal
ties Less h = absurd (let no : ⊥ = cc in no)
ties Equal h = refl
ties Greater h = absurd (let no : ⊥ = cc in no)

pub itself : (p : PartRef) → part_cmp p p ≡ Equal
itself p = ties (part_cmp p p) (part_total.antisymm p p)

not_less : (p : PartRef) → part_cmp p p ≡ Less → ⊥
not_less p h = (let both : Equal ≡ Less = sym (itself p) ∙ h in let no : ⊥ = cc in no)

not_greater : (p : PartRef) → part_cmp p p ≡ Greater → ⊥
not_greater p h = (let both : Equal ≡ Greater = sym (itself p) ∙ h in let no : ⊥ = cc in no)

not_both : (p q : PartRef) → part_cmp p q ≡ Less → part_cmp q p ≡ Less → ⊥
not_both p q h k = (let back : Less ≡ Greater = sym h ∙ (part_total.antisymm p q ∙ ap ordering_reverse k) in let no : ⊥ = cc in no)

-- ---- a place in a list

behind : (q : PartRef) (qs : List PartRef) (p : PartRef) (i : ℕ) → IsAfter (q ∷ qs) p (suc i) → IsAfter qs p i
behind q qs p i after j x below there = after (suc j) x (omega arith) there

-- a part that stands in the list isn't put in
pub stands : (ps : List PartRef) (p : PartRef) (i : ℕ) → slice_get ps i ≡ Some p → IsAfter ps p i → inserted part_cmp p ps ≡ ps
stands [] p i h after = absurd (none-some p h)
stands (q ∷ qs) p zero h after = ap (λ o. match_ordering o (p ∷ q ∷ qs) (q ∷ qs) (q ∷ inserted part_cmp p qs)) (subst (λ x. part_cmp p x ≡ Equal) (sym (same_Some q p h)) (itself p))
stands (q ∷ qs) p (suc i) h after =
    ap (λ o. match_ordering o (p ∷ q ∷ qs) (q ∷ qs) (q ∷ inserted part_cmp p qs)) (after 0 q (omega arith) refl) ∙ ap (λ xs. q ∷ xs) (stands qs p i h (behind q qs p i after))

-- another one is put in at its place
pub enters : (ps : List PartRef) (p : PartRef) (i : ℕ) → i ≤ length ps → IsAfter ps p i → ((q : PartRef) → slice_get ps i ≡ Some q → part_cmp p q ≡ Less) → inserted part_cmp p ps ≡ insert ps i p
enters [] p zero h after less = refl
enters [] p (suc i) h after less = absurd (omega arith)
enters (q ∷ qs) p zero h after less = ap (λ o. match_ordering o (p ∷ q ∷ qs) (q ∷ qs) (q ∷ inserted part_cmp p qs)) (less q refl)
enters (q ∷ qs) p (suc i) h after less =
    ap (λ o. match_ordering o (p ∷ q ∷ qs) (q ∷ qs) (q ∷ inserted part_cmp p qs)) (after 0 q (omega arith) refl) ∙ ap (λ xs. q ∷ xs) (enters qs p i (omega arith) (behind q qs p i after) less)

-- a part that comes before what stands at a place, and after those before it, stands nowhere
pub absent : (ps : List PartRef) (p : PartRef) (i : ℕ) → IsRising part_cmp ps → In ps p → i ≤ length ps → IsAfter ps p i → ((q : PartRef) → slice_get ps i ≡ Some q → part_cmp p q ≡ Less) → ⊥
absent [] p i rising there h after less = there
absent (q ∷ qs) p zero rising there h after less = elim there [
  | inl e ↦ not_less p (subst (λ x. part_cmp p x ≡ Less) e (less q refl))
  | inr j ↦ not_both p q (less q refl) (rising.0 p j)
]
absent (q ∷ qs) p (suc i) rising there h after less = elim there [
  | inl e ↦ not_greater p (subst (λ x. part_cmp p x ≡ Greater) e (after 0 q (omega arith) refl))
  | inr j ↦ absent qs p i rising.1 j (omega arith) (behind q qs p i after) less
]

-- ---- what a program puts in

pub map_insert : {X Y : Type 0} (f : X → Y) (xs : List X) (i : ℕ) (x : X) → i ≤ length xs → map f (insert xs i x) ≡ insert (map f xs) i (f x)
map_insert f [] zero x h = refl
map_insert f [] (suc i) x h = absurd (omega arith)
map_insert f (y ∷ ys) zero x h = refl
map_insert f (y ∷ ys) (suc i) x h = ap (λ zs. f y ∷ zs) (map_insert f ys i x (omega arith))

-- ---- one part more that comes before a part

pub after_more : (ps : List PartRef) (p q : PartRef) (i : ℕ) → slice_get ps i ≡ Some q → part_cmp p q ≡ Greater → IsAfter ps p i → IsAfter ps p (i + 1)
after_more ps p q i at more after j x below there = elim (split j i below) [
  | inl l ↦ after j x l there
  | inr e ↦ subst (λ z. part_cmp p z ≡ Greater) (same_Some q x (sym at ∙ (ap (slice_get ps) (sym e) ∙ there))) more
]
  where
    split : (j i : ℕ) → j < i + 1 → (j < i) ⊎ (j ≡ i)
    split j i h = elim (same_number j i) [ inl e ↦ inr e | inr other ↦ inl (omega arith) ]

pub nothing_past : (ps : List PartRef) (p : PartRef) (i : ℕ) → length ps ≤ i → (q : PartRef) → slice_get ps i ≡ Some q → part_cmp p q ≡ Less
nothing_past ps p i h q there = absurd (none-some q (sym (slice_get_past ps i h) ∙ there))

-- the part at a place
pub there : (xs : List Source) (i : ℕ) (x : Source) → i < length xs → x ≡ get_or xs i x → slice_get (map (λ s. s.part) xs) i ≡ Some x.part
there xs i x below is = slice_get-map (λ (s : Source). s.part) xs i ∙ ap (option_map (λ (s : Source). s.part)) (slice_get_read xs (length xs) i x refl below is)
