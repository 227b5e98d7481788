-- The parts that feed tables, in order, each once.
use Rattle.std.proofs.Common.{◌≡◌, ℕ, suc, ◌+◌, ◌≤◌, List, [], ◌∷◌, length, Option, None, Some, ◌⊎◌, inl, inr, refl, sym, ap, subst, ◌∙◌, arith}
use Rattle.std.specs.declared.cmp.Ordering.{Ordering}
use Rattle.std.specs.declared.cmp.Ordering.TheVariants.{Less, Equal, Greater}
use Rattle.std.specs.Ordering.{match_ordering}
use Rattle.std.proofs.lemmas.Option.{none-some, same_Some}
use Rattle.words.specs.Members.{In}
use Rattle.records.specs.Side.{Side}
use Rattle.fabric.specs.InOrder.{IsRising}
use Rattle.fabric_laws.specs.Insertion.{inserted}
use Rattle.fabric_laws.proofs.Sorted.{inserted_from, inserted_old, inserted_new, inserted_rising}
use Rattle.circuit.specs.Parts.{PartRef, Source}
use Rattle.attempts.specs.PinOrder.{part_cmp}
use Rattle.table_copies.specs.Firsts.{first_at, first_of, with_first, gathered, all_gathered}
use Rattle.table_copies.proofs.Order.{part_total, part_same}

-- a part that feeds a table
abbrev pub IsFirstIn : Side → List Source → List (Option ℕ) → PartRef → Type 0
IsFirstIn side all row p = (k : ℕ) × (In row (Some k) × (first_at side all k ≡ Some p))

length_inserted : (p : PartRef) (ps : List PartRef) → length (inserted part_cmp p ps) ≤ suc (length ps)
length_inserted p [] = omega arith
length_inserted p (q ∷ qs) = go (part_cmp p q) (length_inserted p qs)
  where
    go : (o : Ordering) → length (inserted part_cmp p qs) ≤ suc (length qs) → length (match_ordering o (p ∷ q ∷ qs) (q ∷ qs) (q ∷ inserted part_cmp p qs)) ≤ suc (suc (length qs))
    go Less h = omega arith
    go Equal h = omega arith
    go Greater h = omega arith

-- ---- one part

with_rises : (ps : List PartRef) (o : Option PartRef) → IsRising part_cmp ps → IsRising part_cmp (with_first ps o)
with_rises ps None r = r
with_rises ps (Some p) r = inserted_rising part_cmp part_total p ps r

with_from : (ps : List PartRef) (o : Option PartRef) (q : PartRef) → In (with_first ps o) q → In ps q ⊎ (o ≡ Some q)
with_from ps None q i = inl i
with_from ps (Some p) q i = elim (inserted_from part_cmp part_total p ps q i) [ inl e ↦ inr (ap (λ (x : PartRef). Some x) e) | inr j ↦ inl j ]

with_old : (ps : List PartRef) (o : Option PartRef) (q : PartRef) → In ps q → In (with_first ps o) q
with_old ps None q i = i
with_old ps (Some p) q i = inserted_old part_cmp part_total p ps q i

with_new : (ps : List PartRef) (o : Option PartRef) (q : PartRef) → o ≡ Some q → In (with_first ps o) q
with_new ps None q e = absurd (none-some q e)
with_new ps (Some p) q e = subst (In (inserted part_cmp p ps)) (same_Some p q e) (inserted_new part_cmp part_total p ps (λ x i h. sym (part_same p x h)))

with_few : (ps : List PartRef) (o : Option PartRef) → length (with_first ps o) ≤ suc (length ps)
with_few ps None = omega arith
with_few ps (Some p) = length_inserted p ps

-- ---- those of a table

module _ (side : Side) (all : List Source) where
  abbrev put : List PartRef → Option ℕ → List PartRef
  put ps feed = with_first ps (first_of side all feed)

  pub rises : (ps : List PartRef) (row : List (Option ℕ)) → IsRising part_cmp ps → IsRising part_cmp (gathered side all ps row)
  rises ps [] r = r
  rises ps (feed ∷ row) r = rises (put ps feed) row (with_rises ps (first_of side all feed) r)

  fed_by : (feed : Option ℕ) (p : PartRef) → first_of side all feed ≡ Some p → (k : ℕ) × ((feed ≡ Some k) × (first_at side all k ≡ Some p))
  fed_by None p e = absurd (none-some p e)
  fed_by (Some k) p e = (k, (refl, e))

  more : (feed : Option ℕ) (row : List (Option ℕ)) (p : PartRef) → IsFirstIn side all row p → IsFirstIn side all (feed ∷ row) p
  more feed row p h = (h.0, (inr h.1.0, h.1.1))

  pub comes_from : (ps : List PartRef) (row : List (Option ℕ)) (p : PartRef) → In (gathered side all ps row) p → In ps p ⊎ IsFirstIn side all row p
  comes_from ps [] p i = inl i
  comes_from ps (feed ∷ row) p i = elim (comes_from (put ps feed) row p i) [
    | inl j ↦ elim (with_from ps (first_of side all feed) p j) [
      | inl k ↦ inl k
      | inr e ↦ inr (let k = fed_by feed p e in (k.0, (inl k.1.0, k.1.1)))
    ]
    | inr h ↦ inr (more feed row p h)
  ]

  pub keeps : (ps : List PartRef) (row : List (Option ℕ)) (p : PartRef) → In ps p → In (gathered side all ps row) p
  keeps ps [] p i = i
  keeps ps (feed ∷ row) p i = keeps (put ps feed) row p (with_old ps (first_of side all feed) p i)

  pub takes : (ps : List PartRef) (row : List (Option ℕ)) (p : PartRef) → IsFirstIn side all row p → In (gathered side all ps row) p
  takes ps [] p h = absurd h.1.0
  takes ps (feed ∷ row) p h = elim h.1.0 [
    | inl e ↦ keeps (put ps feed) row p (with_new ps (first_of side all feed) p (ap (first_of side all) e ∙ h.1.1))
    | inr i ↦ takes (put ps feed) row p (h.0, (i, h.1.1))
  ]

  pub few : (ps : List PartRef) (row : List (Option ℕ)) → length (gathered side all ps row) ≤ length ps + length row
  few ps [] = omega arith
  few ps (feed ∷ row) = (let h = few (put ps feed) row in let k = with_few ps (first_of side all feed) in omega arith)

  -- ---- those of three tables

  module _ (a b d : List (Option ℕ)) where
    abbrev listed : List PartRef
    listed = all_gathered side all a b d

    pub all_rise : IsRising part_cmp listed
    all_rise = rises (gathered side all (gathered side all [] a) b) d (rises (gathered side all [] a) b (rises [] a tt))

    pub all_from : (p : PartRef) → In listed p → IsFirstIn side all a p ⊎ (IsFirstIn side all b p ⊎ IsFirstIn side all d p)
    all_from p i = elim (comes_from (gathered side all (gathered side all [] a) b) d p i) [
      | inr h ↦ inr (inr h)
      | inl j ↦ elim (comes_from (gathered side all [] a) b p j) [
        | inr h ↦ inr (inl h)
        | inl k ↦ elim (comes_from [] a p k) [ inr h ↦ inl h | inl l ↦ absurd l ]
      ]
    ]

    pub takes_first : (p : PartRef) → IsFirstIn side all a p → In listed p
    takes_first p h = keeps (gathered side all (gathered side all [] a) b) d p (keeps (gathered side all [] a) b p (takes [] a p h))

    pub takes_second : (p : PartRef) → IsFirstIn side all b p → In listed p
    takes_second p h = keeps (gathered side all (gathered side all [] a) b) d p (takes (gathered side all [] a) b p h)

    pub takes_third : (p : PartRef) → IsFirstIn side all d p → In listed p
    takes_third p h = takes (gathered side all (gathered side all [] a) b) d p h

    pub all_few : length listed ≤ length a + length b + length d
    all_few =
        let x = few [] a in
        let y = few (gathered side all [] a) b in
        let z = few (gathered side all (gathered side all [] a) b) d in
        omega arith
