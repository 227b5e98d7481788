-- Tables stand in the order of parts where slices stand in the order of names.
use Rattle.std.proofs.Common.{◌≡◌, ◌≢◌, ℕ, Bool, true, false, zero, suc, ◌+◌, ◌<◌, List, [], ◌∷◌, ◌++◌, length, None, Some, ◌⊎◌, inl, inr, refl, sym, ap, subst, ◌∙◌, arith}
use Rattle.std.specs.Prelude.{nat_lt, slice_get}
use Rattle.std.specs.List.{flat_map}
use Rattle.std.specs.declared.cmp.Ordering.TheVariants.{Less, Equal, Greater}
use Rattle.std.specs.Ordering.{nat_cmp, ordering_then}
use Rattle.std.specs.Cmp.{IsTotalOrder, nat_cmp_total, nat_cmp_is, on_total, then_total, tied_itself}
use Rattle.std.specs.Cmp.Lexicographic.{nat_list_cmp_total}
use Rattle.std.proofs.lemmas.Bool.Decides.{nat_tests}
use Rattle.std.proofs.lemmas.Option.{slice_get_within}
use Rattle.words.specs.Members.{In}
use Rattle.links.proofs.Members.{of_flat_map, same_number}
use Rattle.fabric_laws.proofs.Numbered.{get_in}
use Rattle.fabric.specs.Wires.{name_cmp}
use Rattle.circuit.specs.Cells.{TableCell, RegisterCell, SliceCell, Role, InputPad, OutputPad, ClockPad, PadCell, Cells}
use Rattle.circuit.specs.Parts.{PartRef, OfTable, OfRegister, OfInput, OfClock, Source, numbered, table_source, register_source, slice_sources, pad_source_by, pad_sources, sources}
use Rattle.attempts.specs.PinOrder.{rank_of, number_of, part_cmp}
use Rattle.net_order.specs.Orders.{AreInNameOrder}

none_some : {X : Type 0} (x : X) → None ≡ Some x → ⊥
none_some x h = (let no : ⊥ = cc in no)

some_same : {X : Type 0} (x y : X) → Some x ≡ Some y → x ≡ y
some_same x y h = cc

-- an element of two lists in a row stands in the first, or behind it in the second
either : {X : Type 0} (xs ys : List X) (i : ℕ) (x : X) → slice_get (xs ++ ys) i ≡ Some x → (slice_get xs i ≡ Some x) ⊎ ((j : ℕ) × ((i ≡ length xs + j) × (slice_get ys j ≡ Some x)))
either [] ys i x h = inr (i, ((let e : i ≡ 0 + i = omega arith in e), h))
either (y ∷ xs) ys zero x h = inl h
either (y ∷ xs) ys (suc i) x h = elim (either xs ys i x h) [
  | inl a ↦ inl a
  | inr b ↦ inr (b.0, ((let f : i ≡ length xs + b.0 = b.1.0 in let e : suc i ≡ suc (length xs) + b.0 = omega arith in e), b.1.1))
]

-- what is made of a numbered element
numbered_at : {X Y : Type 0} (make : ℕ → X → Y) (n : ℕ) (xs : List X) (i : ℕ) (y : Y) → slice_get (numbered make n xs) i ≡ Some y → (x : X) × (make (n + i) x ≡ y)
numbered_at make n [] i y h = absurd (none_some y h)
numbered_at make n (x ∷ xs) zero y h = (x, (let e : n + 0 ≡ n = omega arith in ap (λ m. make m x) e ∙ some_same (make n x) y h))
numbered_at make n (x ∷ xs) (suc i) y h = (let r = numbered_at make (suc n) xs i y h in (r.0, (let e : n + suc i ≡ suc n + i = omega arith in ap (λ m. make m r.0) e ∙ r.1)))

-- the table with a number of a slice
pub record IsTableOf (s : SliceCell) (n : ℕ) (x : Source) : Type 0 where
  pub table : TableCell
  pub is : table_source s n table ≡ x

register_table : (s : SliceCell) (n : ℕ) (r : RegisterCell) (x : Source) (t : TableCell) → register_source s n r ≡ x → x.kind ≡ OfTable t → ⊥
register_table s n r x t e k = (let h : OfRegister r ≡ OfTable t = ap (λ z. z.kind) e ∙ k in let no : ⊥ = cc in no)

in_slice : (s : SliceCell) (i : ℕ) (x : Source) (t : TableCell) → slice_get (slice_sources s) i ≡ Some x → x.kind ≡ OfTable t → IsTableOf s i x
in_slice s i x t h k = elim (either (numbered (table_source s) 0 s.tables) (numbered (register_source s) 0 s.registers) i x h) [
  | inl a ↦ (
      let r = numbered_at (table_source s) 0 s.tables i x a in
      record { table = r.0; is = (let e : 0 + i ≡ i = omega arith in subst (λ m. table_source s m r.0 ≡ x) e r.1) }
      )
  | inr b ↦ (let r = numbered_at (register_source s) 0 s.registers b.0 x b.1.1 in absurd (register_table s (0 + b.0) r.0 x t r.1 k))
]

-- a part of one of several slices
of_slices : (slices : List SliceCell) (i : ℕ) (x : Source) → slice_get (flat_map slice_sources slices) i ≡ Some x
    → (b : ℕ) × ((u : SliceCell) × ((m : ℕ) × ((slice_get slices b ≡ Some u) × (slice_get (slice_sources u) m ≡ Some x))))
of_slices [] i x h = absurd (none_some x h)
of_slices (s ∷ slices) i x h = elim (either (slice_sources s) (flat_map slice_sources slices) i x h) [
  | inl a ↦ (0, (s, (i, (refl, a))))
  | inr b ↦ (let r = of_slices slices b.0 x b.1.1 in (suc r.0, r.1))
]

abbrev Rise : List SliceCell → Type 0
Rise slices = (a b : ℕ) (s u : SliceCell) → a < b → slice_get slices a ≡ Some s → slice_get slices b ≡ Some u → name_cmp s.name u.name ≡ Less

less_number : (i j : ℕ) → i < j → nat_cmp i j ≡ Less
less_number i j h = sym (nat_cmp_is i j Less h)

-- two tables of one slice
same_slice : (s : SliceCell) (i j : ℕ) (x y : Source) → i < j → IsTableOf s i x → IsTableOf s j y → part_cmp x.part y.part ≡ Less
same_slice s i j x y below a b =
    let names : name_cmp s.name s.name ≡ Equal = tied_itself nat_list_cmp_total s.name in
    let numbers = less_number i j below in
    subst (λ (z : Source). part_cmp x.part z.part ≡ Less) b.is
    (subst (λ (z : Source). part_cmp z.part (table_source s j b.table).part ≡ Less) a.is (ap (λ o. ordering_then o (ordering_then (nat_cmp 0 0) (nat_cmp i j))) names ∙ numbers))

-- a table of a slice before another one
two_slices : (s u : SliceCell) (i j : ℕ) (x y : Source) → name_cmp s.name u.name ≡ Less → IsTableOf s i x → IsTableOf u j y → part_cmp x.part y.part ≡ Less
two_slices s u i j x y less a b =
    subst (λ (z : Source). part_cmp x.part z.part ≡ Less) b.is
    (subst (λ (z : Source). part_cmp z.part (table_source u j b.table).part ≡ Less) a.is (ap (λ o. ordering_then o (ordering_then (nat_cmp 0 0) (nat_cmp i j))) less))

in_slices : (slices : List SliceCell) → Rise slices → (i j : ℕ) (x y : Source) (t v : TableCell) → i < j → slice_get (flat_map slice_sources slices) i ≡ Some x → slice_get (flat_map slice_sources slices) j ≡ Some y
    → x.kind ≡ OfTable t → y.kind ≡ OfTable v → part_cmp x.part y.part ≡ Less
in_slices [] rise i j x y t v below hx hy kx ky = absurd (none_some x hx)
in_slices (s ∷ slices) rise i j x y t v below hx hy kx ky =
    elim (either (slice_sources s) (flat_map slice_sources slices) i x hx) [
      | inl a ↦ elim (either (slice_sources s) (flat_map slice_sources slices) j y hy) [
        | inl b ↦ same_slice s i j x y below (in_slice s i x t a kx) (in_slice s j y v b ky)
        | inr b ↦ (
            let u = of_slices slices b.0 y b.1.1 in
            let first : 0 < suc u.0 = omega arith in
            two_slices s u.1.0 i u.1.1.0 x y (rise 0 (suc u.0) s u.1.0 first refl u.1.1.1.0) (in_slice s i x t a kx) (in_slice u.1.0 u.1.1.0 y v u.1.1.1.1 ky)
            )
      ]
      | inr a ↦ elim (either (slice_sources s) (flat_map slice_sources slices) j y hy) [
        | inl b ↦ (let e : i ≡ length (slice_sources s) + a.0 = a.1.0 in let w = slice_get_within (slice_sources s) j y b in absurd (omega arith))
        | inr b ↦ (
            let e : i ≡ length (slice_sources s) + a.0 = a.1.0 in
            let f : j ≡ length (slice_sources s) + b.0 = b.1.0 in
            let less : a.0 < b.0 = omega arith in
            let later : Rise slices = λ c d p q l hp hq. (let more : suc c < suc d = omega arith in rise (suc c) (suc d) p q more hp hq) in
            in_slices slices later a.0 b.0 x y t v less a.1.1 b.1.1 kx ky
            )
      ]
    ]

-- no pad is a table
no_table_by : (p : PadCell) (r : Role) (x : Source) (t : TableCell) → In (pad_source_by p r) x → x.kind ≡ OfTable t → ⊥
no_table_by p InputPad x t i is = elim i [ inl e ↦ (let h : OfInput ≡ OfTable t = ap (λ z. z.kind) e ∙ is in let no : ⊥ = cc in no) | inr j ↦ j ]
no_table_by p ClockPad x t i is = elim i [ inl e ↦ (let h : OfClock ≡ OfTable t = ap (λ z. z.kind) e ∙ is in let no : ⊥ = cc in no) | inr j ↦ j ]
no_table_by p OutputPad x t i is = i

no_table : (pads : List PadCell) (x : Source) (t : TableCell) → In (flat_map pad_sources pads) x → x.kind ≡ OfTable t → ⊥
no_table pads x t i is = (let g = of_flat_map pad_sources pads x i in no_table_by g.0 g.0.role x t g.1.1 is)

table_in_slices : (cells : Cells) (i : ℕ) (x : Source) (t : TableCell) → slice_get (sources cells) i ≡ Some x → x.kind ≡ OfTable t → slice_get (flat_map slice_sources cells.slices) i ≡ Some x
table_in_slices cells i x t h k = elim (either (flat_map slice_sources cells.slices) (flat_map pad_sources cells.pads) i x h) [
  | inl a ↦ a
  | inr b ↦ absurd (no_table cells.pads x t (get_in (flat_map pad_sources cells.pads) b.0 x b.1.1) k)
]

part_total : IsTotalOrder part_cmp
part_total = then_total (on_total (λ p. p.cell) nat_list_cmp_total) (then_total (on_total (λ p. rank_of p.part) nat_cmp_total) (on_total (λ p. number_of p.part) nat_cmp_total))

by_test : (b : Bool) (i j : ℕ) → nat_lt i j ≡ b → i ≢ j → (i < j) ⊎ (j < i)
by_test true i j e other = inl (grind (arith, nat_tests))
by_test false i j e other = inr (grind (arith, nat_tests))

below_or_above : (i j : ℕ) → i ≢ j → (i < j) ⊎ (j < i)
below_or_above i j other = by_test (nat_lt i j) i j refl other

module _ (cells : Cells) (order : AreInNameOrder cells) where
  -- of two tables the one with the lesser number comes first
  pub tables_rise : (i j : ℕ) (x y : Source) (t v : TableCell) → i < j → slice_get (sources cells) i ≡ Some x → slice_get (sources cells) j ≡ Some y → x.kind ≡ OfTable t → y.kind ≡ OfTable v → part_cmp x.part y.part ≡ Less
  tables_rise i j x y t v below hx hy kx ky = in_slices cells.slices order.rises i j x y t v below (table_in_slices cells i x t hx kx) (table_in_slices cells j y v hy ky) kx ky

  less_itself : (p : PartRef) → part_cmp p p ≡ Less → ⊥
  less_itself p h = (let same : part_cmp p p ≡ Equal = tied_itself part_total p in let e : Less ≡ Equal = sym h ∙ same in let no : ⊥ = cc in no)

  -- a table has one number
  pub one_number : (i j : ℕ) (x : Source) (t : TableCell) → slice_get (sources cells) i ≡ Some x → slice_get (sources cells) j ≡ Some x → x.kind ≡ OfTable t → i ≡ j
  one_number i j x t hi hj k = elim (same_number i j) [
    | inl e ↦ e
    | inr other ↦ elim (below_or_above i j other) [
      | inl l ↦ absurd (less_itself x.part (tables_rise i j x x t t l hi hj k k))
      | inr l ↦ absurd (less_itself x.part (tables_rise j i x x t t l hj hi k k))
    ]
  ]

-- a part doesn't come after itself
pub itself : (p : PartRef) → part_cmp p p ≢ Greater
itself p h = (let same : part_cmp p p ≡ Equal = tied_itself part_total p in let e : Greater ≡ Equal = sym h ∙ same in let no : ⊥ = cc in no)
