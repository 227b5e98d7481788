-- Undisturbed runs of two circuits of one design, from one start on one input, show the same.
use Rattle.std.proofs.Common.{◌≡◌, ℕ, zero, suc, ◌<◌, Bool, not, List, [], ◌∷◌, ◌++◌, length, map, ◌⊎◌, inl, inr, refl, sym, ap, subst, ◌∙◌, arith}
use Rattle.std.specs.Prelude.{find, unwrap_or}
use Rattle.words.specs.Members.{In}
use Rattle.records.specs.Side.{Triple, Side}
use Rattle.circuit.specs.Cells.{TableCell, Input, InputWire, InputNotWire, InputZero, InputOne, RegisterCell, PadCell}
use Rattle.circuit.specs.Parts.{PartRef, Kind, OfTable, OfRegister, OfInput, OfClock, Pad, Source, numbered, sources, output_pads}
use Rattle.circuit.specs.Pins.{PinRef, Pin, pin_at, input_pin, table_pins, data_pins, bit_pins, pad_pin, pins}
use Rattle.circuit.specs.Triples.{PartTriple, is_entry, all_triples, triple_with, triple_of}
use Rattle.circuit.specs.Circuits.{Circuit, Connects, Connection, IsReadBy}
use Rattle.circuit.specs.Worlds.{Bit, World, word_bit, table_output, bit_of, carried_by}
use Rattle.circuit.specs.Faults.{no_fault}
use Rattle.circuit.specs.Runs.{IsCycle, IsStep, IsRun, taken}
use Rattle.circuit.specs.Tables.{Ignores}
use Rattle.circuit.specs.Triplicated.{ReadPart, IsTriplicated}
use Rattle.circuit.specs.Designs.{input_shape, table_shape, register_shape, SameSide, SameDesign}
use Rattle.links.proofs.Feeds.{is_fed}
use Rattle.circuit_laws.proofs.Parts.{table_bit, register_bit, bit_pin_listed, pad_pin_listed}
use Rattle.circuit_laws.proofs.Refs.{part_same, pin_same}
use Rattle.circuit_laws.proofs.Sound.{Sound, FeedsFrom, at_pin, to_pin}
use Rattle.circuit_laws.proofs.Depth.{Deep, ordered}
use Rattle.circuit_laws.proofs.Words.{Indifferent, same_output, same_refs}
use Rattle.circuit_laws.proofs.Cycle.{bits_same, read_at, reads_at, steady, out_is, is_bit}
use Rattle.circuit_laws.proofs.Copies.{dry}
use Rattle.circuit_laws.proofs.Outside.{feeder}
use Rattle.circuit_laws.proofs.Registers.{input_listed, enable_listed, reset_listed, next_same, register_fed}
use Rattle.circuit_laws.proofs.Steps.{clocked, pad_feeder, pad_reads}
use Rattle.circuit_laws.proofs.Shapes.{kind_shape, twin_source, twin_pad}

-- side files that are the same but for tiles and kinds have the same triples
triples_same : (a b : Side) → SameSide a b → all_triples a ≡ all_triples b
triples_same a b s =
    ap (λ z. z ++ a.inputs ++ a.outputs ++ a.clocks) s.triples ∙ (ap (λ z. b.triples ++ z ++ a.outputs ++ a.clocks) s.inputs
    ∙ (ap (λ z. b.triples ++ b.inputs ++ z ++ a.clocks) s.outputs ∙ ap (λ z. b.triples ++ b.inputs ++ b.outputs ++ z) s.clocks))

triple_same : (a b : Side) → SameSide a b → (name : List ℕ) → triple_with a name ≡ triple_with b name
triple_same a b s name = ap (λ z. unwrap_or (find (is_entry name) z) (record { first = name; second = name; third = name })) (triples_same a b s)

-- leaving out the wires of pins keeps their number
shape_pins : (t : TableCell) → length (table_shape t).pins ≡ length t.pins
shape_pins t = go t.pins
  where
    go : (ws : List ℕ) → length (map {B = ℕ} (λ w. 0) ws) ≡ length ws
    go [] = refl
    go (w ∷ ws) = ap suc (go ws)

-- tables of one shape
record TablesPair (t v : TableCell) : Type 0 where
  word : t.word ≡ v.word
  pins : length t.pins ≡ length v.pins

tables_pair : (t v : TableCell) → OfTable (table_shape t) ≡ OfTable (table_shape v) → TablesPair t v
tables_pair t v e =
    let shapes : table_shape t ≡ table_shape v = cc in
    record { word = ap (λ z. z.word) shapes; pins = sym (shape_pins t) ∙ (ap (λ z. length z.pins) shapes ∙ shape_pins v) }

-- a pin of a table and the one of the same number of another
twin_pin : (part : PartRef) (n : ℕ) (ws vs : List ℕ) → length ws ≡ length vs → (p : Pin) → In (numbered (pin_at part) n ws) p
    → (q : Pin) × (In (numbered (pin_at part) n vs) q × (q.ref ≡ p.ref))
twin_pin part n [] vs e p i = absurd i
twin_pin part n (w ∷ ws) [] e p i = absurd (let no : ⊥ = omega arith in no)
twin_pin part n (w ∷ ws) (v ∷ vs) e p i = elim i [
  | inl same ↦ (pin_at part n v, (inl refl, ap (λ z. z.ref) same))
  | inr j ↦ (let h : length ws ≡ length vs = omega arith in let g = twin_pin part (suc n) ws vs h p j in (g.0, (inr g.1.0, g.1.1)))
]

module _ (c e : Circuit) (oc : Sound c) (oe : Sound e) (tc : IsTriplicated c) (te : IsTriplicated e) (same : SameDesign c e) where
  -- parts of one name have kinds of one shape
  kinds_same : (s u : Source) → In (sources c.cells) s → In (sources e.cells) u → s.part ≡ u.part → kind_shape s.kind ≡ kind_shape u.kind
  kinds_same s u js ju parts =
      let g = twin_source c.cells e.cells same.parts s js in
      let at_u : g.0 ≡ u = part_same e.cells oe.formed.names g.0 u g.1.0 ju (ap (λ z. z.part) g.1.1 ∙ parts) in
      ap (λ z. z.kind) (sym g.1.1) ∙ ap (λ z. kind_shape z.kind) at_u

  -- the part that feeds a pin of one circuit, and the one of the same name that feeds the pin of the same name of the other
  record Twin (a : Source) (q : Pin) : Type 0 where
    source : Source
    feeds : FeedsFrom e source q.wire
    part : a.part ≡ source.part

  twin : (a : Source) (p q : Pin) → Connects c a p → In (pins e.cells) q → p.ref ≡ q.ref → Twin a q
  twin a p q cn jq refs =
      let x : Connection = record { source = a.part; pin = p.ref } in
      let g = (same.connections x).0 (record { source = a; pin = p; connects = cn; from = refl; to = refl }) in
      let at_q : g.pin ≡ q = pin_same e.cells oe.formed.names g.pin q g.connects.pin jq (g.to ∙ refs) in
      record { source = g.source; feeds = subst (λ z. FeedsFrom e g.source z.wire) at_q (at_pin e g.source g.pin g.connects); part = sym g.from }

  -- read registers of one name hold one bit
  abbrev HeldInBoth : World → World → Type 0
  HeldInBoth v w = (s u : Source) (q r : RegisterCell) → ReadPart c s → ReadPart e u → s.part ≡ u.part → s.kind ≡ OfRegister q → u.kind ≡ OfRegister r → v.part s.part ≡ w.part u.part

  module _ (input : Triple → Bool) (v w : World) (iv : IsCycle c no_fault input v) (iw : IsCycle e no_fault input w) (held : HeldInBoth v w) where
    -- pins of one name fed by outputs that carry the same count as one bit
    pins_agree : (s u a b : Source) (p q : Pin) → ReadPart c s → In (sources e.cells) u → In (bit_pins s) p → In (bit_pins u) q
        → FeedsFrom c a p.wire → FeedsFrom e b q.wire → v.wire a.out ≡ w.wire b.out → bit_of v p ≡ bit_of w q
    pins_agree s u a b p q rs ju ip iq fa fb h =
        let g = is_bit c oc input v iv a p.wire (dry c tc s a p rs ip fa) fa in
        bits_same (v.wire p.wire) (w.wire q.wire) g.0 (bit_of v p) (bit_of w q) (steady c oc input v iv a p.wire fa ∙ (h ∙ sym (steady e oe input w iw b q.wire fb))) g.1 (iv.pins s p rs.listed ip) (iw.pins u q ju iq)

    AgreeAbove : Source → Type 0
    AgreeAbove s = (a b : Source) → IsReadBy c a s → ReadPart c a → ReadPart e b → a.part ≡ b.part → v.wire a.out ≡ w.wire b.out

    -- a pin of a table counts as one bit in both, or the table ignores it
    table_pin_agrees : (s u : Source) (t x : TableCell) (p : Pin) → ReadPart c s → In (sources e.cells) u → s.part ≡ u.part
        → s.kind ≡ OfTable t → u.kind ≡ OfTable x → length t.pins ≡ length x.pins → AgreeAbove s
        → In (table_pins s.part t) p → (bit_of v p ≡ bit_of w p) ⊎ Indifferent (length t.pins) t.word p.ref.pin
    unfolding AgreeAbove
    table_pin_agrees s u t x p rs ju parts ks ku count agrees ip =
        let bp = table_bit s t ks p ip in
        elim (is_fed c.routing p.wire) [
          | inr h ↦ inr (subst (λ k. Ignores k p.ref.pin) ks (tc.open_pins.parts s p rs bp h))
          | inl fed ↦ (let a = feeder c tc s p rs bp fed in
              let q = twin_pin u.part 0 t.pins x.pins count p (subst (λ z. In (numbered (pin_at z) 0 t.pins) p) parts ip) in
              let bq = table_bit u x ku q.0 q.1.0 in
              let b = twin a.source p q.0 (to_pin c a.source p (bit_pin_listed c.cells s p rs.listed bp) a.feeds) (bit_pin_listed e.cells u q.0 ju bq) (sym q.1.1) in
              let h = agrees a.source b.source (reads_at c s a.source t p rs.listed ks ip a.feeds) (read_at c s a.source p rs.listed bp a.feeds) (read_at e u b.source q.0 ju bq b.feeds) b.part in
              inl (pins_agree s u a.source b.source p q.0 rs ju bp bq a.feeds b.feeds h ∙ ap w.pin q.1.1))
        ]

    outputs_by : (s u : Source) (x y : Kind) → ReadPart c s → ReadPart e u → s.part ≡ u.part → s.kind ≡ x → u.kind ≡ y
        → kind_shape x ≡ kind_shape y → AgreeAbove s
        → carried_by c.side input v s.part x ≡ carried_by e.side input w u.part y
    outputs_by s u (OfTable t) (OfTable x) rs ru parts ks ku shape agrees =
        let pair = tables_pair t x shape in
        let first : table_output s.part t (bit_of v) ≡ table_output s.part t (bit_of w) = same_output s.part t (bit_of v) (bit_of w) (λ p ip. table_pin_agrees s u t x p rs ru.listed parts ks ku pair.pins agrees ip) in
        let second : table_output s.part t (bit_of w) ≡ table_output u.part x (bit_of w) =
        ap (λ z. word_bit z (map (bit_of w) (table_pins s.part t))) pair.word ∙ (ap (λ z. word_bit x.word (map (bit_of w) (table_pins z t))) parts ∙ ap (word_bit x.word) (same_refs w.pin u.part 0 t.pins x.pins pair.pins)) in
        ap Bit (iv.tables s t rs.listed ks ∙ (first ∙ (second ∙ sym (iw.tables u x ru.listed ku))))
    outputs_by s u (OfRegister q) (OfRegister r) rs ru parts ks ku shape agrees = ap Bit (held s u q r rs ru parts ks ku)
    outputs_by s u OfInput OfInput rs ru parts ks ku shape agrees = ap (λ z. Bit (input z)) (triple_same c.side e.side same.sides s.part.cell ∙ ap (λ z. triple_with e.side z.cell) parts)
    outputs_by s u OfClock OfClock rs ru parts ks ku shape agrees = refl
    outputs_by s u _ _ rs ru parts ks ku shape agrees = absurd (let no : ⊥ = cc in no)

    -- parts of one name carry the same
    outputs_agree : (k : ℕ) (s u : Source) → ReadPart c s → ReadPart e u → s.part ≡ u.part → Deep c k s → v.wire s.out ≡ w.wire u.out
    unfolding AgreeAbove
    outputs_agree zero s u rs ru parts deep = absurd deep
    outputs_agree (suc k) s u rs ru parts deep =
        out_is c oc input v iv s rs.listed
        ∙ (outputs_by s u s.kind u.kind rs ru parts refl refl (kinds_same s u rs.listed ru.listed parts) (λ a b rd ra rb h. outputs_agree k a b ra rb h (deep a rd))
        ∙ sym (out_is e oe input w iw u ru.listed))

    -- the outputs that feed two pins of one name carry the same
    feeds_agree : (a b : Source) → ReadPart c a → ReadPart e b → a.part ≡ b.part → v.wire a.out ≡ w.wire b.out
    feeds_agree a b ra rb parts = (let deep = ordered c oc tc.no_loop a ra.listed in outputs_agree deep.0 a b ra rb parts deep.1)

    -- two registers of one name take the same at each pin
    register_pin : (s u : Source) (q r : RegisterCell) (x y : Pin) → ReadPart c s → ReadPart e u → s.kind ≡ OfRegister q
        → u.kind ≡ OfRegister r → In (data_pins s.part q) x → In (data_pins u.part r) y → x.ref ≡ y.ref
        → bit_of v x ≡ bit_of w y
    register_pin s u q r x y rs ru ks ku ix iy refs =
        let bx = register_bit s q ks x ix in
        let by = register_bit u r ku y iy in
        let a = (register_fed c tc s q x rs ks ix).0 in
        let b = twin a.source x y (to_pin c a.source x (bit_pin_listed c.cells s x rs.listed bx) a.feeds) (bit_pin_listed e.cells u y ru.listed by) refs in
        pins_agree s u a.source b.source x y rs ru.listed bx by a.feeds b.feeds
        (feeds_agree a.source b.source (read_at c s a.source x rs.listed bx a.feeds) (read_at e u b.source y ru.listed by b.feeds) b.part)

    takes_same : (s u : Source) (n : ℕ) (x y : Input) → s.part ≡ u.part → input_shape x ≡ input_shape y
        → ((p q : Pin) → In (input_pin s.part n x) p → In (input_pin u.part n y) q → p.ref ≡ q.ref → bit_of v p ≡ bit_of w q) → taken v s.part n x ≡ taken w u.part n y
    takes_same s u n (InputWire a) (InputWire b) parts shape h = h (pin_at s.part n a) (pin_at u.part n b) (inl refl) (inl refl) (ap (λ z. let r : PinRef = record { part = z; pin = n } in r) parts)
    takes_same s u n (InputNotWire a) (InputNotWire b) parts shape h = ap not (h (pin_at s.part n a) (pin_at u.part n b) (inl refl) (inl refl) (ap (λ z. let r : PinRef = record { part = z; pin = n } in r) parts))
    takes_same s u n InputZero InputZero parts shape h = refl
    takes_same s u n InputOne InputOne parts shape h = refl
    takes_same s u n _ _ parts shape h = absurd (let no : ⊥ = cc in no)

    -- output pads of one name show the same
    pub pad_shows : (p : PadCell) → In (output_pads c.cells) p → v.shown p.name ≡ w.shown p.name
    pad_shows p jp =
        let q = twin_pad c.cells e.cells same.parts p jp in
        let a = pad_feeder c oc tc p jp in
        let refs : (pad_pin p).ref ≡ (pad_pin q.0).ref = ap (λ z. (let r : PinRef = record { part = record { cell = z; part = Pad }; pin = 0 } in r)) (sym q.1.1) in
        let b = twin a.0 (pad_pin p) (pad_pin q.0) (to_pin c a.0 (pad_pin p) (pad_pin_listed c.cells p jp) a.1.0) (pad_pin_listed e.cells q.0 q.1.0) refs in
        let carries = feeds_agree a.0 b.source (pad_reads c oc tc p a.0 jp a.1.0) (pad_reads e oe te q.0 b.source q.1.0 b.feeds) b.part in
        iv.shows p jp (λ h. h) ∙ (steady c oc input v iv a.0 p.wire a.1.0 ∙ (carries ∙ (sym (steady e oe input w iw b.source q.0.wire b.feeds) ∙ (sym (iw.shows q.0 q.1.0 (λ h. h)) ∙ ap w.shown q.1.1))))

  register_shapes : (s u : Source) (q r : RegisterCell) → In (sources c.cells) s → In (sources e.cells) u → s.part ≡ u.part
      → s.kind ≡ OfRegister q → u.kind ≡ OfRegister r → register_shape q ≡ register_shape r
  register_shapes s u q r js ju parts ks ku =
      let h : OfRegister (register_shape q) ≡ OfRegister (register_shape r) = ap kind_shape (sym ks) ∙ (kinds_same s u js ju parts ∙ ap kind_shape ku) in
      cc

  pub held_next : (input : Triple → Bool) (v w vn wn : World) → IsCycle c no_fault input v → IsCycle e no_fault input w
      → IsStep c no_fault v vn → IsStep e no_fault w wn → HeldInBoth v w → HeldInBoth vn wn
  held_next input v w vn wn iv iw sv sw held = λ s u q r rs ru parts ks ku.
      let shape = register_shapes s u q r rs.listed ru.listed parts ks ku in
      sv s q rs.listed ks (λ h. h) (clocked c oc tc input v iv s q rs ks)
      ∙ (next_same v w s.part u.part q r
      (takes_same input v w iv iw held s u 2 q.reset r.reset parts (ap (λ z. z.reset) shape) (λ x y ix iy. register_pin input v w iv iw held s u q r x y rs ru ks ku (reset_listed s.part q x ix) (reset_listed u.part r y iy)))
      (ap (λ z. z.set) shape)
      (takes_same input v w iv iw held s u 1 q.enable r.enable parts (ap (λ z. z.enable) shape) (λ x y ix iy. register_pin input v w iv iw held s u q r x y rs ru ks ku (enable_listed s.part q x ix) (enable_listed u.part r y iy)))
      (takes_same input v w iv iw held s u 0 q.input r.input parts (ap (λ z. z.input) shape) (λ x y ix iy. register_pin input v w iv iw held s u q r x y rs ru ks ku (input_listed s.part q x ix) (input_listed u.part r y iy)))
      (held s u q r rs ru parts ks ku)
      ∙ sym (sw u r ru.listed ku (λ h. h) (clocked e oe te input w iw u r ru ku)))

  module _ (start : PartTriple → Bool) (input : ℕ → Triple → Bool) (n : ℕ) (v w : ℕ → World) (rv : IsRun c no_fault start input n v) (rw : IsRun e no_fault start input n w) where
    group_same : (x y : PartRef) → x ≡ y → triple_of c.side x ≡ triple_of e.side y
    group_same x y h = ap (λ z. let g : PartTriple = record { cells = z; part = x.part } in g) (triple_same c.side e.side same.sides x.cell) ∙ ap (triple_of e.side) h

    pub held_always : (t : ℕ) → t < n → HeldInBoth (v t) (w t)
    held_always zero lt = λ s u q r rs ru parts ks ku. rv.starts lt s q rs.listed ks rs.read ∙ (ap start (group_same s.part u.part parts) ∙ sym (rw.starts lt u r ru.listed ku ru.read))
    held_always (suc t) lt =
        let before : t < n = omega arith in
        held_next (input t) (v t) (w t) (v (suc t)) (w (suc t)) (rv.cycles t before) (rw.cycles t before) (rv.steps t lt) (rw.steps t lt) (held_always t before)

    pub shown_same : (t : ℕ) → t < n → (p : PadCell) → In (output_pads c.cells) p → (v t).shown p.name ≡ (w t).shown p.name
    shown_same t lt p jp = pad_shows (input t) (v t) (w t) (rv.cycles t lt) (rw.cycles t lt) (held_always t lt) p jp
