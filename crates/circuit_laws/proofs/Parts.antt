-- The parts and pins of cells.
use Rattle.std.proofs.Common.{◌≡◌, ℕ, suc, ◌≤◌, Bool, true, false, List, [], ◌∷◌, map, ◌⊎◌, inl, inr, refl, sym, ap, subst, ◌∙◌, filter, cond, arith}
use Rattle.std.specs.List.{flat_map}
use Rattle.words.specs.Members.{In}
use Rattle.circuit.specs.Cells.{TableCell, RegisterCell, SliceCell, Role, InputPad, OutputPad, ClockPad, PadCell, Cells}
use Rattle.circuit.specs.Parts.{PartKind, Table, Register, Pad, Kind, OfTable, OfRegister, OfInput, OfClock, Source, numbered, table_source, register_source, slice_sources, pad_part, pad_source_by, pad_sources, sources, is_output, output_pads}
use Rattle.circuit.specs.Pins.{Pin, table_pins, data_pins, bit_pins_of, bit_pins, clock_pins, source_pins, pad_pin, pins}
use Rattle.circuit.specs.Triples.{Member, LiesIn}
use Rattle.links.proofs.Members.{in_left, in_right, in_either, in_map, in_flat_map, of_flat_map}

-- a part's kind is that of its name
abbrev pub Fits : PartKind → Kind → Type 0
Fits (Table n) (OfTable t) = Unit {0}
Fits (Register n) (OfRegister r) = Unit {0}
Fits Pad OfInput = Unit {0}
Fits Pad OfClock = Unit {0}
Fits _ _ = ⊥

-- what is known of the parts of a slice
pub record OfSlice (s : SliceCell) (x : Source) : Type 0 where
  pub cell : x.part.cell ≡ s.name
  pub domain : x.domain ≡ s.domain
  pub fits : Fits x.part.part x.kind

-- an element of a numbered list is made of an element and its number
pub of_numbered : {X Y : Type 0} (make : ℕ → X → Y) (n : ℕ) (xs : List X) (y : Y) → In (numbered make n xs) y
    → (m : ℕ) × ((x : X) × (In xs x × ((make m x ≡ y) × (n ≤ m))))
of_numbered make n [] y i = absurd i
of_numbered make n (x ∷ xs) y i = elim i [
  | inl e ↦ (n, (x, (inl refl, (e, (let h : n ≤ n = omega arith in h)))))
  | inr j ↦ (let g = of_numbered make (suc n) xs y j in (g.0, (g.1.0, (inr g.1.1.0, (g.1.1.1.0, (let h : suc n ≤ g.0 = g.1.1.1.1 in let k : n ≤ g.0 = omega arith in k))))))
]

pub of_slice : (s : SliceCell) (x : Source) → In (slice_sources s) x → OfSlice s x
of_slice s x i = elim (in_either (numbered (table_source s) 0 s.tables) (numbered (register_source s) 0 s.registers) x i) [
  | inl j ↦ (let g = of_numbered (table_source s) 0 s.tables x j in subst (OfSlice s) g.1.1.1.0 (record { cell = refl; domain = refl; fits = tt }))
  | inr j ↦ (let g = of_numbered (register_source s) 0 s.registers x j in subst (OfSlice s) g.1.1.1.0 (record { cell = refl; domain = refl; fits = tt }))
]

-- what is known of a pad as a part
pub record OfPad (p : PadCell) (x : Source) : Type 0 where
  pub part : x.part ≡ pad_part p
  pub domain : x.domain ≡ p.domain
  pub fits : Fits x.part.part x.kind

pub of_pad_by : (p : PadCell) (r : Role) (x : Source) → In (pad_source_by p r) x → OfPad p x
of_pad_by p InputPad x i = elim i [ inl e ↦ subst (OfPad p) e (record { part = refl; domain = refl; fits = tt }) | inr j ↦ absurd j ]
of_pad_by p ClockPad x i = elim i [ inl e ↦ subst (OfPad p) e (record { part = refl; domain = refl; fits = tt }) | inr j ↦ absurd j ]
of_pad_by p OutputPad x i = absurd i

-- a part is of a slice or of a pad
pub of_sources : (cells : Cells) (x : Source) → In (sources cells) x
    → ((s : SliceCell) × (In cells.slices s × In (slice_sources s) x)) ⊎ ((p : PadCell) × (In cells.pads p × In (pad_sources p) x))
of_sources cells x i = elim (in_either (flat_map slice_sources cells.slices) (flat_map pad_sources cells.pads) x i) [
  | inl j ↦ inl (of_flat_map slice_sources cells.slices x j)
  | inr j ↦ inr (of_flat_map pad_sources cells.pads x j)
]

pub kind_fits : (cells : Cells) (x : Source) → In (sources cells) x → Fits x.part.part x.kind
kind_fits cells x i = elim (of_sources cells x i) [
  | inl g ↦ (of_slice g.0 x g.1.1).fits
  | inr g ↦ (of_pad_by g.0 g.0.role x g.1.1).fits
]

slice_lies : (cells : Cells) (s : SliceCell) → In cells.slices s → LiesIn cells s.name s.domain
slice_lies cells s i = in_left _ _ _ (in_map (λ z. let m : Member = record { name = z.name; domain = z.domain } in m) cells.slices s i)

pub pad_lies : (cells : Cells) (p : PadCell) → In cells.pads p → LiesIn cells p.name p.domain
pad_lies cells p i = in_right (map (λ z. let m : Member = record { name = z.name; domain = z.domain } in m) cells.slices) _ _ (in_map (λ z. let m : Member = record { name = z.name; domain = z.domain } in m) cells.pads p i)

pub source_lies : (cells : Cells) (x : Source) → In (sources cells) x → LiesIn cells x.part.cell x.domain
source_lies cells x i = elim (of_sources cells x i) [
  | inl g ↦ (let o = of_slice g.0 x g.1.1 in subst (λ n. LiesIn cells n x.domain) (sym o.cell) (subst (λ d. LiesIn cells g.0.name d) (sym o.domain) (slice_lies cells g.0 g.1.0)))
  | inr g ↦ (let o = of_pad_by g.0 g.0.role x g.1.1 in
      subst (λ n. LiesIn cells n x.domain) (sym (ap (λ z. z.cell) o.part)) (subst (λ d. LiesIn cells g.0.name d) (sym o.domain) (pad_lies cells g.0 g.1.0)))
]

-- a filtered list holds those elements of the list that pass
of_filter_by : {X : Type 0} (test : X → Bool) (y : X) (ys : List X) (x : X) (b : Bool) → test y ≡ b
    → (In (filter test ys) x → In ys x × (test x ≡ true))
    → In (cond b (y ∷ filter test ys) (filter test ys)) x → In (y ∷ ys) x × (test x ≡ true)
of_filter_by test y ys x false e later i = (let g = later i in (inr g.0, g.1))
of_filter_by test y ys x true e later i = elim i [
  | inl same ↦ (inl same, subst (λ z. test z ≡ true) same e)
  | inr j ↦ (let g = later j in (inr g.0, g.1))
]

pub of_filter : {X : Type 0} (test : X → Bool) (xs : List X) (x : X) → In (filter test xs) x → In xs x × (test x ≡ true)
of_filter test [] x i = absurd i
of_filter test (y ∷ ys) x i = of_filter_by test y ys x (test y) refl (λ j. of_filter test ys x j) i

in_filter_by : {X : Type 0} (test : X → Bool) (y : X) (ys : List X) (x : X) (b : Bool) → test y ≡ b → test x ≡ true
    → (In ys x → In (filter test ys) x)
    → In (y ∷ ys) x → In (cond b (y ∷ filter test ys) (filter test ys)) x
in_filter_by test y ys x true e pass later i = elim i [ inl same ↦ inl same | inr j ↦ inr (later j) ]
in_filter_by test y ys x false e pass later i = elim i [
  | inl same ↦ (let clash : test x ≡ false = subst (λ z. test z ≡ false) same e in absurd (let no : ⊥ = cc in no))
  | inr j ↦ later j
]

pub in_filter : {X : Type 0} (test : X → Bool) (xs : List X) (x : X) → In xs x → test x ≡ true → In (filter test xs) x
in_filter test [] x i pass = absurd i
in_filter test (y ∷ ys) x i pass = in_filter_by test y ys x (test y) refl pass (λ j. in_filter test ys x j pass) i

pub of_output_pads : (cells : Cells) (p : PadCell) → In (output_pads cells) p → In cells.pads p
of_output_pads cells p i = (of_filter (λ q. is_output q.role) cells.pads p i).0

pub in_output_pads : (cells : Cells) (p : PadCell) → In cells.pads p → p.role ≡ OutputPad → In (output_pads cells) p
in_output_pads cells p i e = in_filter (λ q. is_output q.role) cells.pads p i (ap is_output e)

-- pins of parts and of output pads are pins of the cells
pub bit_pin_listed : (cells : Cells) (s : Source) (p : Pin) → In (sources cells) s → In (bit_pins s) p → In (pins cells) p
bit_pin_listed cells s p i j = in_left _ _ p (in_flat_map source_pins (sources cells) s p i (in_left (bit_pins s) (clock_pins s) p j))

pub clock_pin_listed : (cells : Cells) (s : Source) (p : Pin) → In (sources cells) s → In (clock_pins s) p → In (pins cells) p
clock_pin_listed cells s p i j = in_left _ _ p (in_flat_map source_pins (sources cells) s p i (in_right (bit_pins s) (clock_pins s) p j))

pub pad_pin_listed : (cells : Cells) (p : PadCell) → In (output_pads cells) p → In (pins cells) (pad_pin p)
pad_pin_listed cells p i = in_right (flat_map source_pins (sources cells)) _ (pad_pin p) (in_map pad_pin (output_pads cells) p i)

-- a pin of a table counts as a bit
pub table_bit : (s : Source) (t : TableCell) → s.kind ≡ OfTable t → (p : Pin) → In (table_pins s.part t) p → In (bit_pins s) p
table_bit s t ks p i = subst (λ k. In (bit_pins_of s.part k) p) (sym ks) i

-- so does a pin of a register but its clock
pub register_bit : (s : Source) (r : RegisterCell) → s.kind ≡ OfRegister r → (p : Pin) → In (data_pins s.part r) p → In (bit_pins s) p
register_bit s r ks p i = subst (λ k. In (bit_pins_of s.part k) p) (sym ks) i

pub table_path : (k : Kind) (t v : TableCell) → k ≡ OfTable t → k ≡ OfTable v → t ≡ v
table_path k t v e g = (let h : OfTable t ≡ OfTable v = sym e ∙ g in cc)
