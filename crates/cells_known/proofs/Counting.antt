-- How many parts and pins cells have.
use Rattle.std.proofs.Common.{◌≡◌, ℕ, suc, ◌+◌, Bool, true, false, List, [], ◌∷◌, ◌++◌, length, map, cond, not, sum_by, refl, sym, ap, ap₂, ◌∙◌, arith}
use Rattle.std.specs.Prelude.{count_by, filter}
use Rattle.std.specs.List.{flat_map}
use Rattle.std.proofs.lemmas.List.{length-append, length-map}
use Rattle.std.proofs.lemmas.List.Concat.{length-flat_map, flat_map-append}
use Rattle.std.proofs.lemmas.List.Sums.{sum_by-cons, length-filter}
use Rattle.circuit.specs.Cells.{TableCell, Input, InputWire, InputNotWire, InputZero, InputOne, RegisterCell, SliceCell, Role, InputPad, OutputPad, ClockPad, PadCell, Cells}
use Rattle.circuit.specs.Parts.{PartRef, Source, numbered, table_source, register_source, slice_sources, pad_source_by, pad_sources, sources, is_output, output_pads}
use Rattle.circuit.specs.Pins.{pin_at, input_pin, table_pins, source_pins, pad_pin, pins}
use Rattle.circuit_parts.proofs.Gathered.{length_numbered}
use Rattle.cells_known.specs.Counted.{capped, input_pins, register_pins}

-- ---- parts

parts_in_slice : (s : SliceCell) → length (slice_sources s) ≡ length s.tables + length s.registers
parts_in_slice s =
    length-append (numbered (table_source s) 0 s.tables) (numbered (register_source s) 0 s.registers)
    ∙ ap₂ (λ (a b : ℕ). a + b) (length_numbered (table_source s) 0 s.tables) (length_numbered (register_source s) 0 s.registers)

-- the count of a slice
pub parts_of_slice : (s : SliceCell) (a b k : ℕ) → a ≡ length s.tables → b ≡ length s.registers → k ≡ capped (a + b) → k ≡ capped (length (slice_sources s))
parts_of_slice s a b k tables registers is = (let all = parts_in_slice s in omega arith)

pad_part_by : (p : PadCell) (r : Role) → length (pad_source_by p r) ≡ cond (not (is_output r)) 1 0
pad_part_by p InputPad = refl
pad_part_by p ClockPad = refl
pad_part_by p OutputPad = refl

pad_parts : (pads : List PadCell) → length (flat_map pad_sources pads) ≡ count_by (λ p. not (is_output p.role)) pads
pad_parts [] = refl
pad_parts (p ∷ pads) =
    length-append (pad_sources p) (flat_map pad_sources pads)
    ∙ (ap₂ (λ (a b : ℕ). a + b) (pad_part_by p p.role) (pad_parts pads) ∙ sym (sum_by-cons (λ (q : PadCell). cond (not (is_output q.role)) 1 0) p pads))

pub parts_of_cells : (cells : Cells) (a b n : ℕ) → a ≡ capped (sum_by (λ s. length (slice_sources s)) cells.slices) → b ≡ count_by (λ p. not (is_output p.role)) cells.pads
    → n ≡ capped (a + b) → n ≡ capped (length (sources cells))
parts_of_cells cells a b n slices pads is =
    let both = length-append (flat_map slice_sources cells.slices) (flat_map pad_sources cells.pads) in
    let of_slices = length-flat_map slice_sources cells.slices in
    let of_pads = pad_parts cells.pads in
    omega arith

-- ---- pins

table_pins_are : (s : SliceCell) (n : ℕ) (ts : List TableCell) → length (flat_map source_pins (numbered (table_source s) n ts)) ≡ sum_by (λ t. length t.pins) ts
table_pins_are s n [] = refl
table_pins_are s n (t ∷ ts) =
    let source = table_source s n t in
    let first = length-append (source_pins source) (flat_map source_pins (numbered (table_source s) (suc n) ts)) in
    let bits = length-append (table_pins source.part t) [] in
    let own = length_numbered (pin_at source.part) 0 t.pins in
    let rest = table_pins_are s (suc n) ts in
    let sum = sum_by-cons (λ (u : TableCell). length u.pins) t ts in
    omega arith

input_pins_are : (part : PartRef) (n : ℕ) (x : Input) → length (input_pin part n x) ≡ input_pins x
input_pins_are part n (InputWire w) = refl
input_pins_are part n (InputNotWire w) = refl
input_pins_are part n InputZero = refl
input_pins_are part n InputOne = refl

register_pins_at : (s : SliceCell) (n : ℕ) (r : RegisterCell) → length (source_pins (register_source s n r)) ≡ register_pins r
register_pins_at s n r =
    let part = (register_source s n r).part in
    let input = input_pin part 0 r.input in
    let enable = input_pin part 1 r.enable in
    let reset = input_pin part 2 r.reset in
    let clock = input_pin part 3 r.clock in
    let all = length-append ((input ++ enable) ++ reset) clock in
    let three = length-append (input ++ enable) reset in
    let two = length-append input enable in
    let a = input_pins_are part 0 r.input in
    let b = input_pins_are part 1 r.enable in
    let c = input_pins_are part 2 r.reset in
    let d = input_pins_are part 3 r.clock in
    omega arith

register_pins_are : (s : SliceCell) (n : ℕ) (rs : List RegisterCell) → length (flat_map source_pins (numbered (register_source s) n rs)) ≡ sum_by register_pins rs
register_pins_are s n [] = refl
register_pins_are s n (r ∷ rs) =
    length-append (source_pins (register_source s n r)) (flat_map source_pins (numbered (register_source s) (suc n) rs))
    ∙ (ap₂ (λ (a b : ℕ). a + b) (register_pins_at s n r) (register_pins_are s (suc n) rs) ∙ sym (sum_by-cons register_pins r rs))

pins_in_slice : (s : SliceCell) → length (flat_map source_pins (slice_sources s)) ≡ sum_by (λ t. length t.pins) s.tables + sum_by register_pins s.registers
pins_in_slice s =
    let tables = numbered (table_source s) 0 s.tables in
    let registers = numbered (register_source s) 0 s.registers in
    ap (λ ps. length ps) (flat_map-append source_pins tables registers)
    ∙ (length-append (flat_map source_pins tables) (flat_map source_pins registers) ∙ ap₂ (λ (a b : ℕ). a + b) (table_pins_are s 0 s.tables) (register_pins_are s 0 s.registers))

-- the count of a slice
pub pins_of_slice : (s : SliceCell) (a b k : ℕ) → a ≡ capped (sum_by (λ t. length t.pins) s.tables) → b ≡ capped (sum_by register_pins s.registers) → k ≡ capped (a + b)
    → k ≡ capped (length (flat_map source_pins (slice_sources s)))
pins_of_slice s a b k tables registers is = (let all = pins_in_slice s in omega arith)

slice_pins_are : (slices : List SliceCell) → length (flat_map source_pins (flat_map slice_sources slices)) ≡ sum_by (λ s. length (flat_map source_pins (slice_sources s))) slices
slice_pins_are [] = refl
slice_pins_are (s ∷ slices) =
    ap (λ ps. length ps) (flat_map-append source_pins (slice_sources s) (flat_map slice_sources slices))
    ∙ (length-append (flat_map source_pins (slice_sources s)) (flat_map source_pins (flat_map slice_sources slices))
    ∙ (ap (λ n. length (flat_map source_pins (slice_sources s)) + n) (slice_pins_are slices) ∙ sym (sum_by-cons (λ (u : SliceCell). length (flat_map source_pins (slice_sources u))) s slices)))

pad_has_none : (p : PadCell) (r : Role) → flat_map source_pins (pad_source_by p r) ≡ []
pad_has_none p InputPad = refl
pad_has_none p ClockPad = refl
pad_has_none p OutputPad = refl

pads_have_none : (pads : List PadCell) → length (flat_map source_pins (flat_map pad_sources pads)) ≡ 0
pads_have_none [] = refl
pads_have_none (p ∷ pads) =
    ap (λ ps. length ps) (flat_map-append source_pins (pad_sources p) (flat_map pad_sources pads) ∙ ap (λ ps. ps ++ flat_map source_pins (flat_map pad_sources pads)) (pad_has_none p p.role))
    ∙ pads_have_none pads

pub pins_of_cells : (cells : Cells) (a b n : ℕ) → a ≡ capped (sum_by (λ s. length (flat_map source_pins (slice_sources s))) cells.slices) → b ≡ count_by (λ p. is_output p.role) cells.pads
    → n ≡ capped (a + b) → n ≡ capped (length (pins cells))
pins_of_cells cells a b n slices pads is =
    let of_sources = flat_map-append source_pins (flat_map slice_sources cells.slices) (flat_map pad_sources cells.pads) in
    let parts = length-append (flat_map source_pins (flat_map slice_sources cells.slices)) (flat_map source_pins (flat_map pad_sources cells.pads)) in
    let all_sources : length (flat_map source_pins (sources cells)) ≡ length (flat_map source_pins (flat_map slice_sources cells.slices)) + length (flat_map source_pins (flat_map pad_sources cells.pads))
    = ap (λ ps. length ps) of_sources ∙ parts in
    let all = length-append (flat_map source_pins (sources cells)) (map pad_pin (output_pads cells)) in
    let of_slices = slice_pins_are cells.slices in
    let of_pads = pads_have_none cells.pads in
    let outputs : length (map pad_pin (output_pads cells)) ≡ count_by (λ p. is_output p.role) cells.pads = length-map (output_pads cells) pad_pin ∙ length-filter (λ (p : PadCell). is_output p.role) cells.pads in
    omega arith
