-- Where copies of a table or a register differ, a cell of the triple has it and all before it.
use Rattle.std.proofs.Common.{◌≡◌, ℕ, zero, suc, ◌+◌, ◌<◌, ◌≤◌, Bool, List, [], ◌∷◌, length, get_or, Option, None, inl, inr, refl, sym, ap, subst, ◌∙◌, arith}
use Rattle.std.specs.Prelude.{codes}
use Rattle.std.specs.List.{flat_map}
use Rattle.std.proofs.lemmas.List.{length-append}
use Rattle.words.specs.Members.{In}
use Rattle.links.proofs.Members.{in_left, in_right, in_either, in_flat_map}
use Rattle.records.specs.Side.{Triple}
use Rattle.circuit.specs.Cells.{SliceCell, Cells}
use Rattle.circuit.specs.Parts.{PartKind, Table, Register, Pad, PartRef, Source, numbered, table_source, register_source, slice_sources, pad_sources, sources}
use Rattle.circuit.specs.Triples.{PartTriple, IsEntry}
use Rattle.circuit.specs.Circuits.{Circuit}
use Rattle.circuit_laws.proofs.Parts.{of_sources, of_slice, of_pad_by}
use Rattle.circuit_parts.proofs.Gathered.{length_numbered}
use Rattle.design_checks.specs.CopyChecks.{part_in, Gives, output, unread, TablesDiffer}
use Rattle.part_copies.specs.declared.numbers.CopyNumbers.{CopyNumbers}
use Rattle.part_copies.specs.Numbered.{IsPartNumber, AreCopyNumbers}
use Rattle.copy_checks.specs.declared.unlike.Unlike.{Unlike}
use Rattle.copy_checks.specs.declared.numbered.Numbered.{Numbered}
use Rattle.copy_checks.specs.declared.numbered.Numbered.TheVariants.{Tables, Registers}
use Rattle.copy_checks.specs.Unlike.{kind_at, DiffersAt, Gains, Covers, WithKind}

-- ---- numbered lists

numbered_at : {X Y : Type 0} (make : ℕ → X → Y) (n : ℕ) (xs : List X) (y : Y) → In (numbered make n xs) y → (i : ℕ) × ((i < length xs) × ((x : X) × (make (n + i) x ≡ y)))
numbered_at make n [] y h = absurd h
numbered_at make n (x ∷ xs) y h = elim h [
  | inl e ↦ (let at : n + 0 ≡ n = omega arith in (0, ((let b : 0 < suc (length xs) = omega arith in b), (x, ap (λ k. make k x) at ∙ e))))
  | inr j ↦ (let g = numbered_at make (suc n) xs y j in
      let below = g.1.0 in
      let at : n + suc g.0 ≡ suc n + g.0 = omega arith in
      (suc g.0, ((let b : suc g.0 < suc (length xs) = omega arith in b), (g.1.1.0, ap (λ k. make k g.1.1.0) at ∙ g.1.1.1))))
]

numbered_there : {X Y : Type 0} (make : ℕ → X → Y) (n : ℕ) (xs : List X) (i : ℕ) → i < length xs → (x : X) × In (numbered make n xs) (make (n + i) x)
numbered_there make n [] i h = absurd (omega arith)
numbered_there make n (x ∷ xs) zero h = (let at : n ≡ n + 0 = omega arith in (x, inl (ap (λ k. make k x) at)))
numbered_there make n (x ∷ xs) (suc i) h =
    let g = numbered_there make (suc n) xs i (omega arith) in
    let at : suc n + i ≡ n + suc i = omega arith in
    (g.0, inr (subst (λ k. In (numbered make (suc n) xs) (make k g.0)) at g.1))

-- ---- the tables and registers of a slice

count : Numbered → SliceCell → ℕ
count Tables s = length s.tables
count Registers s = length s.registers

table_number : (m n : ℕ) → Table m ≡ Table n → m ≡ n
table_number m n e = cc

register_number : (m n : ℕ) → Register m ≡ Register n → m ≡ n
register_number m n e = cc

table_register : (m n : ℕ) → Table m ≡ Register n → ⊥
table_register m n e = (let wrong : ⊥ = cc in wrong)

pad_at : (which : Numbered) (n : ℕ) → Pad ≡ kind_at which n → ⊥
pad_at Tables n e = (let wrong : ⊥ = cc in wrong)
pad_at Registers n e = (let wrong : ⊥ = cc in wrong)

slice_part : (s : SliceCell) (which : Numbered) (i : ℕ) → i < count which s → (u : Source) × (In (slice_sources s) u × (u.part ≡ part_in s.name (kind_at which i)))
unfolding count
slice_part s Tables i below =
    let g = numbered_there (table_source s) 0 s.tables i below in
    let at : 0 + i ≡ i = omega arith in
    (table_source s (0 + i) g.0, (in_left (numbered (table_source s) 0 s.tables) (numbered (register_source s) 0 s.registers) (table_source s (0 + i) g.0) g.1, ap (λ k. part_in s.name (Table k)) at))
slice_part s Registers i below =
    let g = numbered_there (register_source s) 0 s.registers i below in
    let at : 0 + i ≡ i = omega arith in
    (register_source s (0 + i) g.0, (in_right (numbered (table_source s) 0 s.tables) (numbered (register_source s) 0 s.registers) (register_source s (0 + i) g.0) g.1, ap (λ k. part_in s.name (Register k)) at))

below_table : (s : SliceCell) (u : Source) → In (numbered (table_source s) 0 s.tables) u → (which : Numbered) (i : ℕ) → u.part.part ≡ kind_at which i → i < count which s
unfolding count
below_table s u h Tables i e =
    let g = numbered_at (table_source s) 0 s.tables u h in
    let same : 0 + g.0 ≡ i = table_number (0 + g.0) i (ap (λ (z : Source). z.part.part) g.1.1.1 ∙ e) in
    let below = g.1.0 in
    omega arith
below_table s u h Registers i e = (let g = numbered_at (table_source s) 0 s.tables u h in absurd (table_register (0 + g.0) i (ap (λ (z : Source). z.part.part) g.1.1.1 ∙ e)))

below_register : (s : SliceCell) (u : Source) → In (numbered (register_source s) 0 s.registers) u → (which : Numbered) (i : ℕ) → u.part.part ≡ kind_at which i → i < count which s
unfolding count
below_register s u h Registers i e =
    let g = numbered_at (register_source s) 0 s.registers u h in
    let same : 0 + g.0 ≡ i = register_number (0 + g.0) i (ap (λ (z : Source). z.part.part) g.1.1.1 ∙ e) in
    let below = g.1.0 in
    omega arith
below_register s u h Tables i e = (let g = numbered_at (register_source s) 0 s.registers u h in absurd (table_register i (0 + g.0) (sym e ∙ sym (ap (λ (z : Source). z.part.part) g.1.1.1))))

below_count : (s : SliceCell) (u : Source) → In (slice_sources s) u → (which : Numbered) (i : ℕ) → u.part.part ≡ kind_at which i → i < count which s
below_count s u h which i e = elim (in_either (numbered (table_source s) 0 s.tables) (numbered (register_source s) 0 s.registers) u h) [
  | inl j ↦ below_table s u j which i e
  | inr j ↦ below_register s u j which i e
]

record OfSlice (cells : Cells) (s : Source) (which : Numbered) (i : ℕ) : Type 0 where
  slice : SliceCell
  listed : In cells.slices slice
  name : s.part.cell ≡ slice.name
  below : i < count which slice

slice_of : (cells : Cells) (s : Source) (which : Numbered) (i : ℕ) → In (sources cells) s → s.part.part ≡ kind_at which i → OfSlice cells s which i
slice_of cells s which i h e = elim (of_sources cells s h) [
  | inl x ↦ record { slice = x.0; listed = x.1.0; name = (of_slice x.0 s x.1.1).cell; below = below_count x.0 s x.1.1 which i e }
  | inr x ↦ absurd (pad_at which i (sym (ap (λ (p : PartRef). p.part) (of_pad_by x.0 x.0.role s x.1.1).part) ∙ e))
]

-- a cell that has a table or a register has those before it
pub earlier : (cells : Cells) (cell : List ℕ) (s : Source) (which : Numbered) (i m : ℕ) → In (sources cells) s → s.part ≡ part_in cell (kind_at which i) → m ≤ i
    → (u : Source) × (In (sources cells) u × (u.part ≡ part_in cell (kind_at which m)))
earlier cells cell s which i m h e before =
    let o = slice_of cells s which i h (ap (λ (p : PartRef). p.part) e) in
    let within = o.below in
    let below : m < count which o.slice = omega arith in
    let u = slice_part o.slice which m below in
    let name : o.slice.name ≡ cell = sym o.name ∙ ap (λ (p : PartRef). p.cell) e in
    (u.0, (in_left (flat_map slice_sources cells.slices) (flat_map pad_sources cells.pads) u.0 (in_flat_map slice_sources cells.slices o.slice u.0 o.listed u.1.0), u.1.1 ∙ ap (λ n. part_in n (kind_at which m)) name))

part_length : {X Y : Type 0} (f : X → List Y) (xs : List X) (x : X) → In xs x → length (f x) ≤ length (flat_map f xs)
part_length f [] x h = absurd h
part_length f (y ∷ ys) x h = elim h [
  | inl e ↦ (let long = length-append (f y) (flat_map f ys) in let same = ap (λ z. length (f z)) e in omega arith)
  | inr j ↦ (let long = length-append (f y) (flat_map f ys) in let rest = part_length f ys x j in omega arith)
]

count_length : (s : SliceCell) (which : Numbered) → count which s ≤ length (slice_sources s)
unfolding count
count_length s Tables =
    let parts = length-append (numbered (table_source s) 0 s.tables) (numbered (register_source s) 0 s.registers) in
    let tables = length_numbered (table_source s) 0 s.tables in
    omega arith
count_length s Registers =
    let parts = length-append (numbered (table_source s) 0 s.tables) (numbered (register_source s) 0 s.registers) in
    let registers = length_numbered (register_source s) 0 s.registers in
    omega arith

-- there are more parts than the number of each
pub below_all : (cells : Cells) (s : Source) (which : Numbered) (i : ℕ) → In (sources cells) s → s.part.part ≡ kind_at which i → i < length (sources cells)
below_all cells s which i h e =
    let o = slice_of cells s which i h e in
    let within = o.below in
    let own = count_length o.slice which in
    let slices = part_length slice_sources cells.slices o.slice o.listed in
    let whole = length-append (flat_map slice_sources cells.slices) (flat_map pad_sources cells.pads) in
    omega arith

-- ---- parts whose copies differ

text_apart : codes "-" ≡ codes "0" → ⊥
text_apart h = (let e : get_or (codes "-") 0 0 ≡ get_or (codes "0") 0 0 = ap (λ xs. get_or xs 0 0) h in absurd (omega arith))

given : (c : Circuit) (bits : PartTriple → Bool) (part : PartRef) (text : List ℕ) → Gives c bits part text → text ≡ codes "0" → (s : Source) × (In (sources c.cells) s × (s.part ≡ part))
given c bits part _ (output s t x e rs ks asg open_zero) is_zero = (s, (rs.listed, e))
given c bits part _ (unread none) is_zero = absurd (text_apart is_zero)

-- a cell of the triple has it
pub differing_part : (c : Circuit) (t : Triple) (which : Numbered) (n : ℕ) → DiffersAt c t (kind_at which n)
    → (cell : List ℕ) × (IsEntry t cell × ((s : Source) × (In (sources c.cells) s × (s.part ≡ part_in cell (kind_at which n)))))
differing_part c t Tables n d = of_table d.1.1
  where
    of_table : {digits : List Bool} {outputs : List ℕ} → TablesDiffer c t n digits outputs → (cell : List ℕ) × (IsEntry t cell × ((s : Source) × (In (sources c.cells) s × (s.part ≡ part_in cell (Table n)))))
    of_table x = elim x.zero [
      | inl e ↦ (t.first, (inl refl, given c x.bits (part_in t.first (Table n)) x.first x.gives_first e))
      | inr i ↦ elim i [
        | inl e ↦ (t.second, (inr (inl refl), given c x.bits (part_in t.second (Table n)) x.second x.gives_second e))
        | inr j ↦ elim j [
          | inl e ↦ (t.third, (inr (inr (inl refl)), given c x.bits (part_in t.third (Table n)) x.third x.gives_third e))
          | inr never ↦ absurd never
        ]
      ]
    ]
differing_part c t Registers n d = (let two = d.1.differs.1.1.1.1.0 in (two.first_cell, (two.first_copy, (d.1.differs.0, (two.first_read.listed, two.first_is)))))

none_of : (all : List Source) (part : PartRef) (o : Option ℕ) → IsPartNumber all part o → o ≡ None → (s : Source) → In all s → s.part ≡ part → ⊥
none_of all part o is none = subst (IsPartNumber all part) none is

-- where no cell of the triple has a part, none has
absent : (cells : Cells) (t : Triple) (kind : PartKind) (copies : CopyNumbers) → AreCopyNumbers (sources cells) t kind copies → (copies.first ≡ None) × ((copies.second ≡ None) × (copies.third ≡ None))
    → (cell : List ℕ) → IsEntry t cell → (s : Source) → In (sources cells) s → s.part ≡ part_in cell kind → ⊥
absent cells t kind copies are none cell entry s h e = elim entry [
  | inl is ↦ none_of (sources cells) (part_in t.first kind) copies.first are.first none.0 s h (e ∙ ap (λ n. part_in n kind) (sym is))
  | inr i ↦ elim i [
    | inl is ↦ none_of (sources cells) (part_in t.second kind) copies.second are.second none.1.0 s h (e ∙ ap (λ n. part_in n kind) (sym is))
    | inr j ↦ elim j [
      | inl is ↦ none_of (sources cells) (part_in t.third kind) copies.third are.third none.1.1 s h (e ∙ ap (λ n. part_in n kind) (sym is))
      | inr never ↦ never
    ]
  ]
]

module _ (c : Circuit) (cells : Cells) (same : c.cells ≡ cells) (t : Triple) (which : Numbered) (n : ℕ) (old found : Option Unlike) (so_far : Gains c old found × ((m : ℕ) → m < n → Covers c t (kind_at which m) found)) where
  -- no cell of the triple has the next one
  pub kind_stops : (copies : CopyNumbers) → AreCopyNumbers (sources cells) t (kind_at which n) copies → (copies.first ≡ None) × ((copies.second ≡ None) × (copies.third ≡ None)) → WithKind c t which old found
  kind_stops copies are none = (so_far.0, λ m d. so_far.1 m (before m d) d)
    where
      less : (m n : ℕ) → (n ≤ m → ⊥) → m < n
      less m n apart = omega arith

      before : (m : ℕ) → DiffersAt c t (kind_at which m) → m < n
      before m d =
          let x = differing_part c t which m d in
          let later : n ≤ m → ⊥ = λ le. (let u = earlier c.cells x.0 x.1.1.0 which m n x.1.1.1.0 x.1.1.1.1 le in
          absent cells t (kind_at which n) copies are none x.0 x.1.0 u.0 (subst (λ v. In (sources v) u.0) same u.1.0) u.1.1) in
          less m n later

  -- so many numbers are those of all parts
  pub kind_ends : length (sources cells) ≤ n → WithKind c t which old found
  kind_ends over = (so_far.0, λ m d. so_far.1 m (before m d) d)
    where
      before : (m : ℕ) → DiffersAt c t (kind_at which m) → m < n
      before m d =
          let x = differing_part c t which m d in
          let few = below_all c.cells x.1.1.0 which m x.1.1.1.0 (ap (λ (p : PartRef). p.part) x.1.1.1.1) in
          let long = ap (λ v. length (sources v)) same in
          omega arith
