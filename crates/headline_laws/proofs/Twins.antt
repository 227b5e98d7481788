-- Pins and parts of the same names, of cells of one shape.
use Rattle.std.proofs.Common.{◌≡◌, ℕ, suc, inl, inr, List, [], ◌∷◌, ◌++◌, map, refl, sym, ap, ap₂, subst, ◌∙◌}
use Rattle.std.specs.List.{flat_map}
use Rattle.std.proofs.lemmas.List.{map-append}
use Rattle.words.specs.Members.{In}
use Rattle.records.specs.Side.{Domain}
use Rattle.circuit.specs.Cells.{Input, InputWire, InputNotWire, InputZero, InputOne, SliceCell, PadCell, Cells}
use Rattle.circuit.specs.Parts.{Pad, PartRef, Kind, OfTable, OfRegister, OfInput, OfClock, Source, numbered, sources, output_pads}
use Rattle.circuit.specs.Pins.{PinRef, Pin, pin_at, input_pin, bit_pins_of, clock_pins_of, bit_pins, clock_pins, source_pins, pad_pin, pins}
use Rattle.circuit.specs.Triples.{Member, members, LiesIn}
use Rattle.circuit.specs.Circuits.{Connection}
use Rattle.circuit.specs.Designs.{input_shape, slice_shape, pad_shape, shape_of}
use Rattle.links.proofs.Members.{in_left, in_right, in_either, in_map, of_map, in_flat_map, of_flat_map, same_number}
use Rattle.circuit_laws.proofs.Same.{Same, same_name, same_part, part_path}
use Rattle.circuit_laws.proofs.Shapes.{kind_shape, source_shape, twin_source, twin_pad}

-- ---- what can be told apart

pub same_ref : (x y : PartRef) → Same x y
same_ref x y = elim (same_name x.cell y.cell) [
  | inr h ↦ inr (λ e. h (ap (λ z. z.cell) e))
  | inl a ↦ elim (same_part x.part y.part) [ inr h ↦ inr (λ e. h (ap (λ z. z.part) e)) | inl b ↦ inl (part_path x y a b) ]
]

pub same_pin_ref : (x y : PinRef) → Same x y
same_pin_ref x y = elim (same_ref x.part y.part) [
  | inr h ↦ inr (λ e. h (ap (λ z. z.part) e))
  | inl a ↦ elim (same_number x.pin y.pin) [ inr h ↦ inr (λ e. h (ap (λ z. z.pin) e)) | inl b ↦ inl (λ i. record { part = a i; pin = b i }) ]
]

pub same_connection : (x y : Connection) → Same x y
same_connection x y = elim (same_ref x.source y.source) [
  | inr h ↦ inr (λ e. h (ap (λ z. z.source) e))
  | inl a ↦ elim (same_pin_ref x.pin y.pin) [ inr h ↦ inr (λ e. h (ap (λ z. z.pin) e)) | inl b ↦ inl (λ i. record { source = a i; pin = b i }) ]
]

-- ---- the names of pins

abbrev ref_of : Pin → PinRef
ref_of p = p.ref

abbrev refs : List Pin → List PinRef
refs ps = map ref_of ps

-- the names of a table's pins go by their number
numbered_refs : (part : PartRef) (n : ℕ) (ws : List ℕ) → refs (numbered (pin_at part) n ws) ≡ refs (numbered (pin_at part) n (map (λ w. 0) ws))
numbered_refs part n [] = refl
numbered_refs part n (w ∷ ws) = ap (λ rs. record { part = part; pin = n } ∷ rs) (numbered_refs part (suc n) ws)

input_refs : (part : PartRef) (n : ℕ) (x : Input) → refs (input_pin part n x) ≡ refs (input_pin part n (input_shape x))
input_refs part n (InputWire w) = refl
input_refs part n (InputNotWire w) = refl
input_refs part n InputZero = refl
input_refs part n InputOne = refl

joined_refs : (xs ys zs ws : List Pin) → refs xs ≡ refs zs → refs ys ≡ refs ws → refs (xs ++ ys) ≡ refs (zs ++ ws)
joined_refs xs ys zs ws e f = map-append ref_of xs ys ∙ ap₂ (λ (a : List PinRef) (b : List PinRef). a ++ b) e f ∙ sym (map-append ref_of zs ws)

bit_refs : (part : PartRef) (k : Kind) → refs (bit_pins_of part k) ≡ refs (bit_pins_of part (kind_shape k))
bit_refs part (OfTable t) = numbered_refs part 0 t.pins
bit_refs part (OfRegister r) =
    joined_refs (input_pin part 0 r.input ++ input_pin part 1 r.enable) (input_pin part 2 r.reset)
    (input_pin part 0 (input_shape r.input) ++ input_pin part 1 (input_shape r.enable)) (input_pin part 2 (input_shape r.reset))
    (joined_refs (input_pin part 0 r.input) (input_pin part 1 r.enable) (input_pin part 0 (input_shape r.input)) (input_pin part 1 (input_shape r.enable))
    (input_refs part 0 r.input) (input_refs part 1 r.enable))
    (input_refs part 2 r.reset)
bit_refs part OfInput = refl
bit_refs part OfClock = refl

clock_refs : (part : PartRef) (k : Kind) → refs (clock_pins_of part k) ≡ refs (clock_pins_of part (kind_shape k))
clock_refs part (OfTable t) = refl
clock_refs part (OfRegister r) = input_refs part 3 r.clock
clock_refs part OfInput = refl
clock_refs part OfClock = refl

-- lists with the same names have pins of the same names
by_refs : (ps qs : List Pin) → refs ps ≡ refs qs → (p : Pin) → In ps p → (q : Pin) × (In qs q × (q.ref ≡ p.ref))
by_refs ps qs e p i = of_map ref_of qs p.ref (subst (λ rs. In rs p.ref) e (in_map ref_of ps p i))

module _ (s u : Source) (shape : source_shape u ≡ source_shape s) where
  same_kinds : kind_shape s.kind ≡ kind_shape u.kind
  same_kinds = ap (λ z. z.kind) (sym shape)

  same_parts : s.part ≡ u.part
  same_parts = ap (λ z. z.part) (sym shape)

  -- a pin of a part and the one of the same name of its twin, bits and clocks apart
  pub twin_bit : (p : Pin) → In (bit_pins s) p → (q : Pin) × (In (bit_pins u) q × (q.ref ≡ p.ref))
  twin_bit = by_refs (bit_pins s) (bit_pins u)
      (bit_refs s.part s.kind ∙ ap₂ (λ a k. refs (bit_pins_of a k)) same_parts same_kinds ∙ sym (bit_refs u.part u.kind))

  pub twin_clock : (p : Pin) → In (clock_pins s) p → (q : Pin) × (In (clock_pins u) q × (q.ref ≡ p.ref))
  twin_clock = by_refs (clock_pins s) (clock_pins u)
      (clock_refs s.part s.kind ∙ ap₂ (λ a k. refs (clock_pins_of a k)) same_parts same_kinds ∙ sym (clock_refs u.part u.kind))

  pub twin_of_part : (p : Pin) → In (source_pins s) p → (q : Pin) × (In (source_pins u) q × (q.ref ≡ p.ref))
  twin_of_part p i = elim (in_either (bit_pins s) (clock_pins s) p i) [
    | inl j ↦ (let q = twin_bit p j in (q.0, (in_left (bit_pins u) (clock_pins u) q.0 q.1.0, q.1.1)))
    | inr j ↦ (let q = twin_clock p j in (q.0, (in_right (bit_pins u) (clock_pins u) q.0 q.1.0, q.1.1)))
  ]

-- a pin of one of two cells of one shape, and the pin of the same name of the other
pub twin_pin : (a b : Cells) → shape_of a ≡ shape_of b → (p : Pin) → In (pins a) p → (q : Pin) × (In (pins b) q × (q.ref ≡ p.ref))
twin_pin a b same p i = elim (in_either (flat_map source_pins (sources a)) (map pad_pin (output_pads a)) p i) [
  | inl j ↦ (let s = of_flat_map source_pins (sources a) p j in
      let u = twin_source a b same s.0 s.1.0 in
      let q = twin_of_part s.0 u.0 u.1.1 p s.1.1 in
      (q.0, (in_left (flat_map source_pins (sources b)) (map pad_pin (output_pads b)) q.0 (in_flat_map source_pins (sources b) u.0 q.0 u.1.0 q.1.0), q.1.1)))
  | inr j ↦ (let s = of_map pad_pin (output_pads a) p j in
      let u = twin_pad a b same s.0 s.1.0 in (
        pad_pin u.0,
        (
          in_right (flat_map source_pins (sources b)) (map pad_pin (output_pads b)) (pad_pin u.0) (in_map pad_pin (output_pads b) u.0 u.1.0),
          ap (λ z. let r : PinRef = record { part = record { cell = z; part = Pad }; pin = 0 } in r) u.1.1 ∙ ap (λ z. z.ref) s.1.1,
        ),
      ))
]

-- ---- the domains of cells

abbrev slice_member : SliceCell → Member
slice_member s = record { name = s.name; domain = s.domain }

abbrev pad_member : PadCell → Member
pad_member p = record { name = p.name; domain = p.domain }

slice_members : (ss : List SliceCell) → map slice_member ss ≡ map slice_member (map slice_shape ss)
slice_members [] = refl
slice_members (s ∷ ss) = ap (λ ms. slice_member s ∷ ms) (slice_members ss)

pad_members : (ps : List PadCell) → map pad_member ps ≡ map pad_member (map pad_shape ps)
pad_members [] = refl
pad_members (p ∷ ps) = ap (λ ms. pad_member p ∷ ms) (pad_members ps)

shape_members : (cells : Cells) → members cells ≡ members (shape_of cells)
shape_members cells = ap₂ (λ (a : List Member) (b : List Member). a ++ b) (slice_members cells.slices) (pad_members cells.pads)

pub lies_along : (a b : Cells) → shape_of a ≡ shape_of b → (name : List ℕ) (d : Domain) → LiesIn a name d → LiesIn b name d
lies_along a b same name d i = subst (λ ms. In ms (record { name = name; domain = d })) (shape_members a ∙ ap members same ∙ sym (shape_members b)) i
