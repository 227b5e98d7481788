-- Of two circuits of one design both are triplicated where one is.
use Rattle.std.proofs.Common.{◌≡◌, ℕ, ◌⊎◌, inl, inr, refl, sym, ap, subst, ◌∙◌}
use Rattle.words.specs.Members.{In}
use Rattle.links.specs.Links.{Fed, Reaches, here, onto}
use Rattle.records.specs.Side.{Domain, D0, D1, D2, Triple}
use Rattle.circuit.specs.Cells.{TableCell, Input, InputWire, InputNotWire, InputZero, InputOne, RegisterCell, PadCell}
use Rattle.circuit.specs.Parts.{PartRef, Kind, OfTable, OfRegister, OfInput, OfClock, Source, sources, output_pads}
use Rattle.circuit.specs.Pins.{PinRef, Pin, pin_at, input_pin, data_pins, bit_pins, clock_pins, clock_pins_of, source_pins, pad_pin, pins}
use Rattle.circuit.specs.Triples.{IsEntry, all_triples, triple_of}
use Rattle.circuit.specs.Circuits.{Circuit, Connects, IsReadBy}
use Rattle.circuit.specs.Domains.{HasDomain}
use Rattle.circuit.specs.Tables.{Ignores, TablesAlike}
use Rattle.circuit.specs.Registers.{FedAlike, TakesAlike, RegistersAlike}
use Rattle.circuit.specs.Triplicated.{ReadPart, EntriesInDomain, OpenPinsIgnored, FedByClock, ClocksAreClocks, IsVoter, ReadsOwnDomain, TablesMask, HasOutputs, NoTableLoop, IsTriplicated}
use Rattle.circuit.specs.Designs.{input_shape, register_shape}
use Rattle.links.proofs.Members.{in_either}
use Rattle.circuit_laws.proofs.Parts.{bit_pin_listed, clock_pin_listed, pad_pin_listed, table_bit, register_bit}
use Rattle.circuit_laws.proofs.Refs.{part_same}
use Rattle.circuit_laws.proofs.Registers.{input_listed, enable_listed, reset_listed}
use Rattle.circuit_laws.proofs.Shapes.{kind_shape, source_shape}
use Rattle.headline_laws.proofs.Twins.{twin_bit, twin_clock, twin_of_part}
use Rattle.headline_laws.proofs.Alike.{Alike, turned, triples_same, group_same, twin_part, cross, fed_cross, domain_cross, read_cross, voter_cross, lies_cross, twin_out, pad_fed}
use Rattle.headline_laws.proofs.Masking.{shape_pins, is_table, twin_at, moved_output, moved, moved_assigned, masks_along}

-- a part ignores a pin where one of its shape does
ignores_shape : (k : Kind) (n : ℕ) → Ignores k n → Ignores (kind_shape k) n
ignores_shape (OfTable t) n h = λ bits e. h bits (e ∙ shape_pins t.pins)
ignores_shape (OfRegister r) n h = h
ignores_shape OfInput n h = h
ignores_shape OfClock n h = h

ignores_of_shape : (k : Kind) (n : ℕ) → Ignores (kind_shape k) n → Ignores k n
ignores_of_shape (OfTable t) n h = λ bits e. h bits (e ∙ sym (shape_pins t.pins))
ignores_of_shape (OfRegister r) n h = h
ignores_of_shape OfInput n h = h
ignores_of_shape OfClock n h = h

is_clock : (k : Kind) → kind_shape k ≡ OfClock → k ≡ OfClock
is_clock (OfTable t) e = absurd (let no : ⊥ = cc in no)
is_clock (OfRegister r) e = absurd (let no : ⊥ = cc in no)
is_clock OfInput e = absurd (let no : ⊥ = cc in no)
is_clock OfClock e = refl

is_register : (k : Kind) (r : RegisterCell) → kind_shape k ≡ OfRegister (register_shape r) → (q : RegisterCell) × ((k ≡ OfRegister q) × (register_shape q ≡ register_shape r))
is_register (OfTable t) r e = absurd (let no : ⊥ = cc in no)
is_register (OfRegister q) r e = (q, (refl, (let s : register_shape q ≡ register_shape r = cc in s)))
is_register OfInput r e = absurd (let no : ⊥ = cc in no)
is_register OfClock r e = absurd (let no : ⊥ = cc in no)

-- inputs of one form
is_wire : (x : Input) → input_shape x ≡ InputWire 0 → (w : ℕ) × (x ≡ InputWire w)
is_wire (InputWire w) e = (w, refl)
is_wire (InputNotWire w) e = absurd (let no : ⊥ = cc in no)
is_wire InputZero e = absurd (let no : ⊥ = cc in no)
is_wire InputOne e = absurd (let no : ⊥ = cc in no)

is_not_wire : (x : Input) → input_shape x ≡ InputNotWire 0 → (w : ℕ) × (x ≡ InputNotWire w)
is_not_wire (InputWire w) e = absurd (let no : ⊥ = cc in no)
is_not_wire (InputNotWire w) e = (w, refl)
is_not_wire InputZero e = absurd (let no : ⊥ = cc in no)
is_not_wire InputOne e = absurd (let no : ⊥ = cc in no)

is_zero : (x : Input) → input_shape x ≡ InputZero → x ≡ InputZero
is_zero (InputWire w) e = absurd (let no : ⊥ = cc in no)
is_zero (InputNotWire w) e = absurd (let no : ⊥ = cc in no)
is_zero InputZero e = refl
is_zero InputOne e = absurd (let no : ⊥ = cc in no)

is_one : (x : Input) → input_shape x ≡ InputOne → x ≡ InputOne
is_one (InputWire w) e = absurd (let no : ⊥ = cc in no)
is_one (InputNotWire w) e = absurd (let no : ⊥ = cc in no)
is_one InputZero e = absurd (let no : ⊥ = cc in no)
is_one InputOne e = refl

module _ {c e : Circuit} (al : Alike c e) where
  -- pins of the same names are fed by one triple
  fed_alike : (p q r s : Pin) → FedAlike c p q → In (pins e.cells) r → In (pins e.cells) s → r.ref ≡ p.ref → s.ref ≡ q.ref → FedAlike e r s
  fed_alike p q r s h i j f g =
      let a = cross al h.first p r h.feeds_first i f in
      let b = cross al h.second q s h.feeds_second j g in
      record {
        first = a.0;
        second = b.0;
        feeds_first = a.1.0;
        feeds_second = b.1.0;
        same = sym (group_same c.side e.side al.same.sides h.first.part a.0.part (ap (λ z. z.part) (sym a.1.1)))
            ∙ h.same ∙ group_same c.side e.side al.same.sides h.second.part b.0.part (ap (λ z. z.part) (sym b.1.1));
      }

  at_number : (s u : PartRef) (n : ℕ) → s ≡ u → (let r : PinRef = record { part = s; pin = n } in r) ≡ record { part = u; pin = n }
  at_number s u n h = ap (λ z. let r : PinRef = record { part = z; pin = n } in r) h

  -- registers of the same names take alike at a pin
  takes_along : (s u a b : PartRef) (n : ℕ) (x y v w : Input) → a ≡ s → b ≡ u → input_shape v ≡ input_shape x → input_shape w ≡ input_shape y
      → ((p : Pin) → In (input_pin a n v) p → In (pins e.cells) p) → ((p : Pin) → In (input_pin b n w) p → In (pins e.cells) p)
      → TakesAlike c s u n x y → TakesAlike e a b n v w
  takes_along s u a b n (InputWire k) (InputWire l) v w f g h i there there_too alike =
      let m = is_wire v h in
      let o = is_wire w i in
      subst (λ z. TakesAlike e a b n z w) (sym m.1) (subst (λ z. TakesAlike e a b n (InputWire m.0) z) (sym o.1)
      (fed_alike (pin_at s n k) (pin_at u n l) (pin_at a n m.0) (pin_at b n o.0) alike
      (there (pin_at a n m.0) (subst (λ z. In (input_pin a n z) (pin_at a n m.0)) (sym m.1) (inl refl)))
      (there_too (pin_at b n o.0) (subst (λ z. In (input_pin b n z) (pin_at b n o.0)) (sym o.1) (inl refl)))
      (at_number a s n f) (at_number b u n g)))
  takes_along s u a b n (InputNotWire k) (InputNotWire l) v w f g h i there there_too alike =
      let m = is_not_wire v h in
      let o = is_not_wire w i in
      subst (λ z. TakesAlike e a b n z w) (sym m.1) (subst (λ z. TakesAlike e a b n (InputNotWire m.0) z) (sym o.1)
      (fed_alike (pin_at s n k) (pin_at u n l) (pin_at a n m.0) (pin_at b n o.0) alike
      (there (pin_at a n m.0) (subst (λ z. In (input_pin a n z) (pin_at a n m.0)) (sym m.1) (inl refl)))
      (there_too (pin_at b n o.0) (subst (λ z. In (input_pin b n z) (pin_at b n o.0)) (sym o.1) (inl refl)))
      (at_number a s n f) (at_number b u n g)))
  takes_along s u a b n InputZero InputZero v w f g h i there there_too alike =
      subst (λ z. TakesAlike e a b n z w) (sym (is_zero v h)) (subst (λ z. TakesAlike e a b n InputZero z) (sym (is_zero w i)) tt)
  takes_along s u a b n InputOne InputOne v w f g h i there there_too alike =
      subst (λ z. TakesAlike e a b n z w) (sym (is_one v h)) (subst (λ z. TakesAlike e a b n InputOne z) (sym (is_one w i)) tt)
  takes_along s u a b n _ _ v w f g h i there there_too alike = absurd alike

module _ {c e : Circuit} (al : Alike c e) (tc : IsTriplicated c) where
  abbrev ba : Alike e c
  ba = turned al

  entries : EntriesInDomain e
  entries = record {
    first = λ t i. lies_cross al t.first D0 (tc.entries.first t (back t i));
    second = λ t i. lies_cross al t.second D1 (tc.entries.second t (back t i));
    third = λ t i. lies_cross al t.third D2 (tc.entries.third t (back t i));
  }
    where
      back : (t : Triple) → In (all_triples e.side) t → In (all_triples c.side) t
      back t i = subst (λ ts. In ts t) (sym (triples_same c.side e.side al.same.sides)) i

  -- the twin of a read part is read
  record Twin (s : Source) : Type 0 where
    part : Source
    read : ReadPart c part
    shape : source_shape part ≡ source_shape s

  twin : (s : Source) → ReadPart e s → Twin s
  twin s r = (let u = twin_part ba s r.listed in record { part = u.0; read = read_cross ba s u.0 r u.1.0 (ap (λ z. z.part) u.1.1); shape = u.1.1 })

  bit_there : (s : Source) → ReadPart e s → (p : Pin) → In (bit_pins s) p → In (pins e.cells) p
  bit_there s r p i = bit_pin_listed e.cells s p r.listed i

  bit_here : (s : Source) → ReadPart c s → (p : Pin) → In (bit_pins s) p → In (pins c.cells) p
  bit_here s r p i = bit_pin_listed c.cells s p r.listed i

  part_there : (k : Circuit) (s : Source) → ReadPart k s → (p : Pin) → In (source_pins s) p → In (pins k.cells) p
  part_there k s r p i = elim (in_either (bit_pins s) (clock_pins s) p i) [
    | inl j ↦ bit_pin_listed k.cells s p r.listed j
    | inr j ↦ clock_pin_listed k.cells s p r.listed j
  ]

  open_pins : OpenPinsIgnored e
  open_pins = record { parts = parts; pads = pads }
    where
      parts : (s : Source) (p : Pin) → ReadPart e s → In (bit_pins s) p → (Fed e.routing p.wire → ⊥) → Ignores s.kind p.ref.pin
      parts s p r i n =
          let u = twin s r in
          let q = twin_bit s u.part u.shape p i in
          let ignored = tc.open_pins.parts u.part q.0 u.read q.1.0 (λ f. n (fed_cross al q.0 p (bit_here u.part u.read q.0 q.1.0) (bit_there s r p i) (sym q.1.1) f)) in
          ignores_of_shape s.kind p.ref.pin (subst (λ k. Ignores k p.ref.pin) (ap (λ z. z.kind) u.shape) (ignores_shape u.part.kind p.ref.pin (subst (λ z. Ignores u.part.kind z.pin) q.1.1 ignored)))

      pads : (p : PadCell) → In (output_pads e.cells) p → Fed e.routing p.wire
      pads p i = (let q = twin_out ba p i in pad_fed al q.0 p q.1.0 i (sym q.1.1.1.1) (tc.open_pins.pads q.0 q.1.0))

  -- what a clock pad feeds in one a clock pad feeds in the other
  clock_back : (p q : Pin) → In (pins c.cells) q → q.ref ≡ p.ref → FedByClock e p → FedByClock c q
  clock_back p q i h f = (let b = cross ba f.0 p q f.1.0 i h in (b.0, (b.1.0, is_clock b.0.kind (ap (λ z. z.kind) b.1.1 ∙ ap kind_shape f.1.1))))

  clock_on : (p q : Pin) → In (pins e.cells) q → q.ref ≡ p.ref → FedByClock c p → FedByClock e q
  clock_on p q i h f = (let b = cross al f.0 p q f.1.0 i h in (b.0, (b.1.0, is_clock b.0.kind (ap (λ z. z.kind) b.1.1 ∙ ap kind_shape f.1.1))))

  clocks : ClocksAreClocks e
  clocks = record { parts = parts; pads = pads; clocked = clocked }
    where
      parts : (s : Source) (p : Pin) → ReadPart e s → In (bit_pins s) p → FedByClock e p → ⊥
      parts s p r i f =
          let u = twin s r in
          let q = twin_bit s u.part u.shape p i in
          tc.clocks.parts u.part q.0 u.read q.1.0 (clock_back p q.0 (bit_here u.part u.read q.0 q.1.0) q.1.1 f)

      pads : (p : PadCell) → In (output_pads e.cells) p → FedByClock e (pad_pin p) → ⊥
      pads p i f = (let q = twin_out ba p i in tc.clocks.pads q.0 q.1.0 (clock_back (pad_pin p) (pad_pin q.0) (pad_pin_listed c.cells q.0 q.1.0) q.1.1.1.1 f))

      clocked : (s : Source) (r : RegisterCell) → ReadPart e s → s.kind ≡ OfRegister r → (p : Pin) × (In (clock_pins s) p × FedByClock e p)
      clocked s r rs ks =
          let u = twin s rs in
          let k = is_register u.part.kind r (ap (λ z. z.kind) u.shape ∙ ap kind_shape ks) in
          let q = tc.clocks.clocked u.part k.0 u.read k.1.0 in
          let p = twin_clock u.part s (sym u.shape) q.0 q.1.0 in
          (p.0, (p.1.0, clock_on q.0 p.0 (clock_pin_listed e.cells s p.0 rs.listed p.1.0) p.1.1 q.1.1))

  own : ReadsOwnDomain e
  own = record { parts = parts; pads = pads }
    where
      parts : (s : Source) (p : Pin) → ReadPart e s → In (source_pins s) p → Fed e.routing p.wire → HasDomain e p.wire s.domain ⊎ (IsVoter e s.part × ((d : Domain) × HasDomain e p.wire d))
      parts s p r i f =
          let u = twin s r in
          let q = twin_of_part s u.part u.shape p i in
          let j = part_there e s r p i in
          let k = part_there c u.part u.read q.0 q.1.0 in
          elim (tc.own.parts u.part q.0 u.read q.1.0 (fed_cross ba p q.0 j k q.1.1 f)) [
            | inl h ↦ inl (subst (HasDomain e p.wire) (ap (λ z. z.domain) u.shape) (domain_cross al q.0 p k j (sym q.1.1) u.part.domain h))
            | inr h ↦ inr (voter_cross al u.part.part s.part (ap (λ z. z.part) (sym u.shape)) h.0, (h.1.0, domain_cross al q.0 p k j (sym q.1.1) h.1.0 h.1.1))
          ]

      pads : (p : PadCell) → In (output_pads e.cells) p → Fed e.routing p.wire → HasDomain e p.wire p.domain
      pads p i f =
          let q = twin_out ba p i in
          let j = pad_pin_listed e.cells p i in
          let k = pad_pin_listed c.cells q.0 q.1.0 in
          domain_cross al (pad_pin q.0) (pad_pin p) k j (sym q.1.1.1.1) p.domain
          (subst (HasDomain c q.0.wire) q.1.1.1.0 (tc.own.pads q.0 q.1.0 (fed_cross ba (pad_pin p) (pad_pin q.0) j k q.1.1.1.1 f)))

  masks : TablesMask e
  masks s t r ks =
      let u = twin s r in
      let v = is_table u.part.kind t (ap (λ z. z.kind) u.shape ∙ ap kind_shape ks) in
      masks_along al u.part s v.0 t u.read.listed r.listed (ap (λ z. z.part) u.shape) v.1.0 ks v.1.1 (ap (λ z. z.domain) u.shape) (tc.masks u.part v.0 u.read v.1.0)

  -- copies in one are copies in the other
  group_back : (s u : Source) (a : Twin s) (b : Twin u) → triple_of e.side s.part ≡ triple_of e.side u.part → triple_of c.side a.part.part ≡ triple_of c.side b.part.part
  group_back s u a b h =
      group_same c.side e.side al.same.sides a.part.part s.part (ap (λ z. z.part) a.shape) ∙ h ∙ sym (group_same c.side e.side al.same.sides b.part.part u.part (ap (λ z. z.part) b.shape))

  tables : (s u : Source) (t v : TableCell) → ReadPart e s → ReadPart e u → s.kind ≡ OfTable t → u.kind ≡ OfTable v
      → triple_of e.side s.part ≡ triple_of e.side u.part → TablesAlike e s u t v
  tables s u t v rs ru ks ku same = λ bits x y ax ay.
      let a = twin s rs in
      let b = twin u ru in
      let f = is_table a.part.kind t (ap (λ z. z.kind) a.shape ∙ ap kind_shape ks) in
      let g = is_table b.part.kind v (ap (λ z. z.kind) b.shape ∙ ap kind_shape ku) in
      let pa = ap (λ z. z.part) a.shape in
      let pb = ap (λ z. z.part) b.shape in
      sym (moved_output al a.part s f.0 t a.read.listed rs.listed pa f.1.0 ks f.1.1 x)
      ∙ tc.copies.tables a.part b.part f.0 g.0 a.read b.read f.1.0 g.1.0 (group_back s u a b same) bits
      (moved al a.part s f.0 t a.read.listed rs.listed pa f.1.0 ks f.1.1 x) (moved al b.part u g.0 v b.read.listed ru.listed pb g.1.0 ku g.1.1 y)
      (moved_assigned al a.part s f.0 t a.read.listed rs.listed pa f.1.0 ks f.1.1 bits x ax) (moved_assigned al b.part u g.0 v b.read.listed ru.listed pb g.1.0 ku g.1.1 bits y ay)
      ∙ moved_output al b.part u g.0 v b.read.listed ru.listed pb g.1.0 ku g.1.1 y

  data_there : (s : Source) (r : RegisterCell) → ReadPart e s → s.kind ≡ OfRegister r → (p : Pin) → In (data_pins s.part r) p → In (pins e.cells) p
  data_there s r rs ks p i = bit_there s rs p (register_bit s r ks p i)

  clock_there : (s : Source) (r : RegisterCell) → ReadPart e s → s.kind ≡ OfRegister r → (p : Pin) → In (input_pin s.part 3 r.clock) p → In (pins e.cells) p
  clock_there s r rs ks p i = clock_pin_listed e.cells s p rs.listed (subst (λ k. In (clock_pins_of s.part k) p) (sym ks) i)

  registers : (s u : Source) (q r : RegisterCell) → ReadPart e s → ReadPart e u → s.kind ≡ OfRegister q → u.kind ≡ OfRegister r
      → triple_of e.side s.part ≡ triple_of e.side u.part → RegistersAlike e s.part u.part q r
  registers s u q r rs ru ks ku same =
      let a = twin s rs in
      let b = twin u ru in
      let f = is_register a.part.kind q (ap (λ z. z.kind) a.shape ∙ ap kind_shape ks) in
      let g = is_register b.part.kind r (ap (λ z. z.kind) b.shape ∙ ap kind_shape ku) in
      let pa = ap (λ z. z.part) (sym a.shape) in
      let pb = ap (λ z. z.part) (sym b.shape) in
      let h = tc.copies.registers a.part b.part f.0 g.0 a.read b.read f.1.0 g.1.0 (group_back s u a b same) in
      record {
        set = ap (λ z. z.set) (sym f.1.1) ∙ h.set ∙ ap (λ z. z.set) g.1.1;
        input = takes_along al a.part.part b.part.part s.part u.part 0 f.0.input g.0.input q.input r.input pa pb (ap (λ z. z.input) (sym f.1.1)) (ap (λ z. z.input) (sym g.1.1))
            (λ p i. data_there s q rs ks p (input_listed s.part q p i)) (λ p i. data_there u r ru ku p (input_listed u.part r p i)) h.input;
        enable = takes_along al a.part.part b.part.part s.part u.part 1 f.0.enable g.0.enable q.enable r.enable pa pb (ap (λ z. z.enable) (sym f.1.1)) (ap (λ z. z.enable) (sym g.1.1))
            (λ p i. data_there s q rs ks p (enable_listed s.part q p i)) (λ p i. data_there u r ru ku p (enable_listed u.part r p i)) h.enable;
        reset = takes_along al a.part.part b.part.part s.part u.part 2 f.0.reset g.0.reset q.reset r.reset pa pb (ap (λ z. z.reset) (sym f.1.1)) (ap (λ z. z.reset) (sym g.1.1))
            (λ p i. data_there s q rs ks p (reset_listed s.part q p i)) (λ p i. data_there u r ru ku p (reset_listed u.part r p i)) h.reset;
        clock = takes_along al a.part.part b.part.part s.part u.part 3 f.0.clock g.0.clock q.clock r.clock pa pb (ap (λ z. z.clock) (sym f.1.1)) (ap (λ z. z.clock) (sym g.1.1))
            (clock_there s q rs ks) (clock_there u r ru ku) h.clock;
      }

  outputs : (t : Triple) (p q : PadCell) → In e.side.outputs t → In (output_pads e.cells) p → In (output_pads e.cells) q → IsEntry t p.name → IsEntry t q.name → FedAlike e (pad_pin p) (pad_pin q)
  outputs t p q i j k m n =
      let a = twin_out ba p j in
      let b = twin_out ba q k in
      fed_alike al (pad_pin a.0) (pad_pin b.0) (pad_pin p) (pad_pin q)
      (tc.copies.outputs t a.0 b.0 (subst (λ ts. In ts t) (sym al.same.sides.outputs) i) a.1.0 b.1.0 (subst (IsEntry t) (sym a.1.1.0) m) (subst (IsEntry t) (sym b.1.1.0) n))
      (pad_pin_listed e.cells p j) (pad_pin_listed e.cells q k) (sym a.1.1.1.1) (sym b.1.1.1.1)

  has_outputs : HasOutputs e
  has_outputs = (tc.has_outputs.0, subst (λ ts. In ts tc.has_outputs.0) al.same.sides.outputs tc.has_outputs.1)

  -- what a table reads in one it reads in the other
  reads_back : (a s b u : Source) → IsReadBy e a s → In (sources c.cells) b → In (sources c.cells) u → source_shape b ≡ source_shape a → source_shape u ≡ source_shape s → IsReadBy c b u
  reads_back a s b u r ib iu sb su =
      let v = is_table u.kind r.table (ap (λ z. z.kind) su ∙ ap kind_shape r.is_table) in
      let p = twin_at s.part u.part 0 r.table.pins v.0.pins (ap (λ z. z.part) (sym su)) (sym v.1.1.pins) r.pin r.takes in
      let listed = bit_pin_listed c.cells u p.0 iu (table_bit u v.0 v.1.0 p.0 p.1.0) in
      let d = cross ba a r.pin p.0 r.connects listed p.1.1 in
      let same : d.0 ≡ b = part_same c.cells al.sound.formed.names d.0 b d.1.0.source ib (ap (λ z. z.part) d.1.1 ∙ ap (λ z. z.part) (sym sb)) in
      record { table = v.0; is_table = v.1.0; listed = iu; pin = p.0; takes = p.1.0; connects = subst (λ z. Connects c z p.0) same d.1.0 }

  reaches_back : {a s : Source} (b u : Source) → Reaches (IsReadBy e) a s → In (sources c.cells) b → In (sources c.cells) u → source_shape b ≡ source_shape a → source_shape u ≡ source_shape s → Reaches (IsReadBy c) b u
  reaches_back b u here ib iu sb su =
      subst (Reaches (IsReadBy c) b) (part_same c.cells al.sound.formed.names b u ib iu (ap (λ z. z.part) sb ∙ ap (λ z. z.part) (sym su))) here
  reaches_back b u (onto {b = m} {c = s} q step) ib iu sb su =
      let v = twin_part ba m step.connects.source in
      onto (reaches_back b v.0 q ib v.1.0 sb v.1.1) (reads_back m s v.0 u step v.1.0 iu v.1.1 su)

  no_loop : NoTableLoop e
  no_loop s u r q =
      let a = twin_part ba s r.connects.source in
      let b = twin_part ba u r.listed in
      tc.no_loop a.0 b.0 (reads_back s u a.0 b.0 r a.1.0 b.1.0 a.1.1 b.1.1) (reaches_back b.0 a.0 q b.1.0 a.1.0 b.1.1 a.1.1)

  pub triplicated : IsTriplicated e
  triplicated = record {
    entries = entries;
    open_pins = open_pins;
    clocks = clocks;
    own = own;
    masks = masks;
    copies = record { tables = tables; registers = registers; outputs = outputs };
    has_outputs = has_outputs;
    no_loop = no_loop;
  }
