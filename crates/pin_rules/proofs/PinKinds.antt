-- Which pins of a part are clock pins, and which a table ignores.
use Rattle.std.proofs.Common.{◌≡◌, ℕ, suc, ◌+◌, ◌<◌, ◌≤◌, true, false, List, [], ◌∷◌, ◌++◌, length, inl, inr, refl, sym, ap, subst, ◌∙◌, arith}
use Rattle.std.specs.Prelude.{◌==◌}
use Rattle.words.specs.Members.{In}
use Rattle.links.proofs.Members.{in_either, in_left, in_right}
use Rattle.circuit.specs.Cells.{TableCell, Input, InputWire, InputNotWire, InputZero, InputOne, RegisterCell, SliceCell, Role, InputPad, OutputPad, ClockPad, PadCell}
use Rattle.circuit.specs.Parts.{PartRef, Kind, OfTable, OfRegister, OfInput, OfClock, Source, numbered, table_source, register_source, pad_source_by, sources}
use Rattle.circuit.specs.Pins.{Pin, pin_at, input_pin, table_pins, data_pins, bit_pins_of, clock_pins_of, bit_pins, clock_pins, source_pins}
use Rattle.circuit.specs.Circuits.{Circuit}
use Rattle.circuit.specs.WellFormed.{IsWellFormed}
use Rattle.circuit.specs.Tables.{Ignores}
use Rattle.circuit_laws.proofs.Parts.{of_numbered, of_sources}
use Rattle.pin_rules.specs.Rules.{is_clock_pin, ignores_pin}
use Rattle.pin_rules.proofs.Addressed.{ignored_from, ignored_to}

true_false : true ≡ false → ⊥
true_false h = (let no : ⊥ = cc in no)

-- ---- clock pins

pub input_number : (part : PartRef) (n : ℕ) (x : Input) (p : Pin) → In (input_pin part n x) p → p.ref.pin ≡ n
input_number part n (InputWire w) p i = elim i [ inl e ↦ ap (λ z. z.ref.pin) (sym e) | inr j ↦ absurd j ]
input_number part n (InputNotWire w) p i = elim i [ inl e ↦ ap (λ z. z.ref.pin) (sym e) | inr j ↦ absurd j ]
input_number part n InputZero p i = absurd i
input_number part n InputOne p i = absurd i

bit_of : (part : PartRef) (k : Kind) (p : Pin) → In (bit_pins_of part k ++ clock_pins_of part k) p → is_clock_pin k p.ref.pin ≡ false → In (bit_pins_of part k) p
bit_of part (OfTable t) p i h = elim (in_either (table_pins part t) [] p i) [ inl j ↦ j | inr j ↦ absurd j ]
bit_of part (OfRegister r) p i h = elim (in_either (data_pins part r) (input_pin part 3 r.clock) p i) [
  | inl j ↦ j
  | inr j ↦ absurd (true_false (ap (λ n. n == 3) (sym (input_number part 3 r.clock p j)) ∙ h))
]
bit_of part OfInput p i h = absurd i
bit_of part OfClock p i h = absurd i

-- a pin that is no clock pin counts as a bit
pub bit_pin : (s : Source) (p : Pin) → In (source_pins s) p → is_clock_pin s.kind p.ref.pin ≡ false → In (bit_pins s) p
bit_pin s p i h = bit_of s.part s.kind p i h

no_clock_of : (part : PartRef) (k : Kind) (p : Pin) → In (bit_pins_of part k) p → is_clock_pin k p.ref.pin ≡ false
no_clock_of part (OfTable t) p i = refl
no_clock_of part (OfRegister r) p i = elim (in_either (input_pin part 0 r.input ++ input_pin part 1 r.enable) (input_pin part 2 r.reset) p i) [
  | inr j ↦ ap (λ n. n == 3) (input_number part 2 r.reset p j)
  | inl j ↦ elim (in_either (input_pin part 0 r.input) (input_pin part 1 r.enable) p j) [
    | inl k ↦ ap (λ n. n == 3) (input_number part 0 r.input p k)
    | inr k ↦ ap (λ n. n == 3) (input_number part 1 r.enable p k)
  ]
]
no_clock_of part OfInput p i = absurd i
no_clock_of part OfClock p i = absurd i

pub no_clock : (s : Source) (p : Pin) → In (bit_pins s) p → is_clock_pin s.kind p.ref.pin ≡ false
no_clock s p i = no_clock_of s.part s.kind p i

pub bit_listed : (s : Source) (p : Pin) → In (bit_pins s) p → In (source_pins s) p
bit_listed s p i = in_left (bit_pins s) (clock_pins s) p i

pub clock_listed : (s : Source) (p : Pin) → In (clock_pins s) p → In (source_pins s) p
clock_listed s p i = in_right (bit_pins s) (clock_pins s) p i

-- ---- pins that are ignored

-- the number of a table's pin is below how many it has
below_count : (part : PartRef) (n : ℕ) (ws : List ℕ) (p : Pin) → In (numbered (pin_at part) n ws) p → p.ref.pin < n + length ws
below_count part n [] p i = absurd i
below_count part n (w ∷ ws) p i = elim i [
  | inl e ↦ (let is : p.ref.pin ≡ n = ap (λ z. z.ref.pin) (sym e) in omega arith)
  | inr j ↦ (let rest = below_count part (suc n) ws p j in omega arith)
]

own_below : (part : PartRef) (t : TableCell) (p : Pin) → In (table_pins part t ++ []) p → p.ref.pin < length t.pins
own_below part t p i = elim (in_either (table_pins part t) [] p i) [ inl j ↦ (let b = below_count part 0 t.pins p j in omega arith) | inr j ↦ absurd j ]

-- the table of a part is a table of a slice
table_of : (s : SliceCell) (x : Source) (t : TableCell) → x.kind ≡ OfTable t → In (numbered (table_source s) 0 s.tables ++ numbered (register_source s) 0 s.registers) x → In s.tables t
table_of s x t is i = elim (in_either (numbered (table_source s) 0 s.tables) (numbered (register_source s) 0 s.registers) x i) [
  | inl j ↦ (
      let g = of_numbered (table_source s) 0 s.tables x j in
      let same : g.1.0 ≡ t = table_same g.1.0 t (ap (λ z. z.kind) g.1.1.1.0 ∙ is) in
      subst (λ z. In s.tables z) same g.1.1.0
      )
  | inr j ↦ (
      let g = of_numbered (register_source s) 0 s.registers x j in
      absurd (register_table g.1.0 t (ap (λ z. z.kind) g.1.1.1.0 ∙ is))
      )
]
  where
    table_same : (a b : TableCell) → OfTable a ≡ OfTable b → a ≡ b
    table_same a b h = cc

    register_table : (r : RegisterCell) (b : TableCell) → OfRegister r ≡ OfTable b → ⊥
    register_table r b h = (let no : ⊥ = cc in no)

no_table_by : (p : PadCell) (r : Role) (x : Source) (t : TableCell) → In (pad_source_by p r) x → x.kind ≡ OfTable t → ⊥
no_table_by p InputPad x t i is = elim i [ inl e ↦ input_table t (ap (λ z. z.kind) e ∙ is) | inr j ↦ j ]
  where
    input_table : (b : TableCell) → OfInput ≡ OfTable b → ⊥
    input_table b h = (let no : ⊥ = cc in no)
no_table_by p ClockPad x t i is = elim i [ inl e ↦ clock_table t (ap (λ z. z.kind) e ∙ is) | inr j ↦ j ]
  where
    clock_table : (b : TableCell) → OfClock ≡ OfTable b → ⊥
    clock_table b h = (let no : ⊥ = cc in no)
no_table_by p OutputPad x t i is = i

-- a table has up to four pins
few_pins : (c : Circuit) → IsWellFormed c → (s : Source) (t : TableCell) → In (sources c.cells) s → s.kind ≡ OfTable t → length t.pins ≤ 4
few_pins c formed s t i is = elim (of_sources c.cells s i) [
  | inl g ↦ formed.sizes.few_pins g.0 t g.1.0 (table_of g.0 s t is g.1.1)
  | inr g ↦ absurd (no_table_by g.0 g.0.role s t g.1.1 is)
]

module _ (c : Circuit) (formed : IsWellFormed c) (s : Source) (p : Pin) (listed : In (sources c.cells) s) (own : In (source_pins s) p) where
  ignores_of : (k : Kind) → s.kind ≡ k → In (bit_pins_of s.part k ++ clock_pins_of s.part k) p → ignores_pin k p.ref.pin ≡ true → Ignores k p.ref.pin
  ignores_of (OfTable t) is i h = ignored_from t p.ref.pin (few_pins c formed s t listed is) (own_below s.part t p i) h
  ignores_of (OfRegister r) is i h = absurd (true_false (sym h))
  ignores_of OfInput is i h = absurd i
  ignores_of OfClock is i h = absurd i

  to_ignores : (k : Kind) → s.kind ≡ k → In (bit_pins_of s.part k ++ clock_pins_of s.part k) p → Ignores k p.ref.pin → ignores_pin k p.ref.pin ≡ true
  to_ignores (OfTable t) is i h = ignored_to t p.ref.pin (few_pins c formed s t listed is) (own_below s.part t p i) h
  to_ignores (OfRegister r) is i h = absurd h
  to_ignores OfInput is i h = absurd h
  to_ignores OfClock is i h = absurd h

  pub ignores_is : ignores_pin s.kind p.ref.pin ≡ true → Ignores s.kind p.ref.pin
  ignores_is h = ignores_of s.kind refl own h

  pub is_ignored : Ignores s.kind p.ref.pin → ignores_pin s.kind p.ref.pin ≡ true
  is_ignored h = to_ignores s.kind refl own h
