-- Outputs of tables of one name in two circuits of one design, for the same bits at the pins of the same names.
use Rattle.std.proofs.Common.{◌≡◌, ℕ, suc, Bool, false, List, [], ◌∷◌, length, map, ◌⊎◌, inl, inr, refl, sym, ap, ◌∙◌, arith}
use Rattle.words.specs.Members.{In}
use Rattle.records.specs.Side.{Domain}
use Rattle.circuit.specs.Cells.{TableCell}
use Rattle.circuit.specs.Parts.{PartRef, Kind, OfTable, OfRegister, OfInput, OfClock, Source, numbered, sources}
use Rattle.circuit.specs.Pins.{PinRef, Pin, pin_at, table_pins, pins}
use Rattle.circuit.specs.Triples.{PartTriple}
use Rattle.circuit.specs.Circuits.{Circuit}
use Rattle.circuit.specs.Worlds.{word_bit, table_output}
use Rattle.circuit.specs.Tables.{Assigned, SameBitsBut, Masks}
use Rattle.circuit.specs.Designs.{table_shape}
use Rattle.links.proofs.Members.{any_of}
use Rattle.circuit_laws.proofs.Parts.{bit_pin_listed, table_bit}
use Rattle.circuit_laws.proofs.Refs.{pin_same}
use Rattle.circuit_laws.proofs.Words.{same_output, same_refs}
use Rattle.circuit_laws.proofs.Shapes.{kind_shape}
use Rattle.headline_laws.proofs.Twins.{same_pin_ref}
use Rattle.headline_laws.proofs.Alike.{Alike, turned, cross, domain_cross, group_same}

-- leaving out the wires of pins keeps their number
pub shape_pins : (ws : List ℕ) → length (map {B = ℕ} (λ w. 0) ws) ≡ length ws
shape_pins [] = refl
shape_pins (w ∷ ws) = ap suc (shape_pins ws)

-- tables of one shape
pub record TablesPair (t v : TableCell) : Type 0 where
  pub word : t.word ≡ v.word
  pub pins : length t.pins ≡ length v.pins

pub tables_pair : (t v : TableCell) → OfTable (table_shape t) ≡ OfTable (table_shape v) → TablesPair t v
tables_pair t v e =
    let shapes : table_shape t ≡ table_shape v = cc in
    record { word = ap (λ z. z.word) shapes; pins = sym (shape_pins t.pins) ∙ (ap (λ z. length z.pins) shapes ∙ shape_pins v.pins) }

-- what has the shape of a table is one
pub is_table : (k : Kind) (t : TableCell) → kind_shape k ≡ OfTable (table_shape t) → (v : TableCell) × ((k ≡ OfTable v) × TablesPair v t)
is_table (OfTable v) t e = (v, (refl, tables_pair v t e))
is_table (OfRegister r) t e = absurd (let no : ⊥ = cc in no)
is_table OfInput t e = absurd (let no : ⊥ = cc in no)
is_table OfClock t e = absurd (let no : ⊥ = cc in no)

-- a pin of a table and the one of the same number of another
pub twin_at : (s u : PartRef) (n : ℕ) (ws vs : List ℕ) → s ≡ u → length ws ≡ length vs → (p : Pin) → In (numbered (pin_at s) n ws) p
    → (q : Pin) × (In (numbered (pin_at u) n vs) q × (q.ref ≡ p.ref))
twin_at s u n [] vs parts e p i = absurd i
twin_at s u n (w ∷ ws) [] parts e p i = absurd (let no : ⊥ = omega arith in no)
twin_at s u n (w ∷ ws) (v ∷ vs) parts e p i = elim i [
  | inl same ↦ (pin_at u n v, (inl refl, ap (λ z. let r : PinRef = record { part = z; pin = n } in r) (sym parts) ∙ ap (λ z. z.ref) same))
  | inr j ↦ (let h : length ws ≡ length vs = omega arith in let g = twin_at s u (suc n) ws vs parts h p j in (g.0, (inr g.1.0, g.1.1)))
]

-- the bit at the pin of a name among some pins
pub by_ref : List Pin → (Pin → Bool) → PinRef → Bool
by_ref ps x r = elim (any_of (λ p. p.ref ≡ r) (λ p. same_pin_ref p.ref r) ps) [ inl g ↦ x g.0 | inr n ↦ false ]

pub by_ref_is : (ps : List Pin) (x : Pin → Bool) → ((p q : Pin) → In ps p → In ps q → p.ref ≡ q.ref → p ≡ q) → (p : Pin) → In ps p → by_ref ps x p.ref ≡ x p
unfolding by_ref
by_ref_is ps x once p i = go (any_of (λ q. q.ref ≡ p.ref) (λ q. same_pin_ref q.ref p.ref) ps)
  where
    go : (g : ((q : Pin) × (In ps q × (q.ref ≡ p.ref))) ⊎ ((q : Pin) → In ps q → q.ref ≡ p.ref → ⊥)) → (let b : Bool = elim g [ inl g ↦ x g.0 | inr n ↦ false ] in b) ≡ x p
    go (inl g) = ap x (once g.0 p g.1.0 i g.1.1)
    go (inr n) = absurd (n p i refl)

-- tables of one shape and name give the same for the same bits by names
output_same : (s u : PartRef) (t v : TableCell) → s ≡ u → TablesPair t v → (x : PinRef → Bool) → table_output s t (λ p. x p.ref) ≡ table_output u v (λ p. x p.ref)
output_same s u t v parts pair x =
    ap (λ z. word_bit z (map (λ p. x p.ref) (table_pins s t))) pair.word
    ∙ (ap (λ z. word_bit v.word (map (λ p. x p.ref) (table_pins z t))) parts ∙ ap (word_bit v.word) (same_refs x u 0 t.pins v.pins pair.pins))

module _ {c e : Circuit} (al : Alike c e) (s u : Source) (t v : TableCell) (is : In (sources c.cells) s) (iu : In (sources e.cells) u) (parts : s.part ≡ u.part)
    (ks : s.kind ≡ OfTable t) (ku : u.kind ≡ OfTable v) (pair : TablesPair t v) where
  pin_there : (p : Pin) → In (table_pins u.part v) p → In (pins e.cells) p
  pin_there p i = bit_pin_listed e.cells u p iu (table_bit u v ku p i)

  pub pin_here : (p : Pin) → In (table_pins s.part t) p → In (pins c.cells) p
  pin_here p i = bit_pin_listed c.cells s p is (table_bit s t ks p i)

  once : (p q : Pin) → In (table_pins u.part v) p → In (table_pins u.part v) q → p.ref ≡ q.ref → p ≡ q
  once p q i j h = pin_same e.cells al.also.formed.names p q (pin_there p i) (pin_there q j) h

  -- bits at the pins of the second table, by the pins of the first
  pub moved : (Pin → Bool) → Pin → Bool
  moved x p = by_ref (table_pins u.part v) x p.ref

  pub moved_at : (x : Pin → Bool) (p : Pin) → In (table_pins s.part t) p → (q : Pin) × (In (table_pins u.part v) q × ((q.ref ≡ p.ref) × (moved x p ≡ x q)))
  unfolding moved
  moved_at x p i =
      let q = twin_at s.part u.part 0 t.pins v.pins parts pair.pins p i in
      (q.0, (q.1.0, (q.1.1, ap (by_ref (table_pins u.part v) x) (sym q.1.1) ∙ by_ref_is (table_pins u.part v) x once q.0 q.1.0)))

  -- the first table gives for them what the second gives
  pub moved_output : (x : Pin → Bool) → table_output s.part t (moved x) ≡ table_output u.part v x
  unfolding moved
  moved_output x =
      output_same s.part u.part t v parts pair (by_ref (table_pins u.part v) x)
      ∙ same_output u.part v (λ p. by_ref (table_pins u.part v) x p.ref) x (λ p i. inl (by_ref_is (table_pins u.part v) x once p i))

  pub moved_assigned : (bits : PartTriple → Bool) (x : Pin → Bool) → Assigned e bits u v x → Assigned c bits s t (moved x)
  moved_assigned bits x h = λ p a i cn.
      let q = moved_at x p i in
      let b = cross al a p q.0 cn (pin_there q.0 q.1.0) q.1.1.0 in
      q.1.1.1 ∙ h q.0 b.0 q.1.0 b.1.0 ∙ ap bits (sym (group_same c.side e.side al.same.sides a.part b.0.part (ap (λ z. z.part) (sym b.1.1))))

  pub moved_but : (d : Domain) (x y : Pin → Bool) → SameBitsBut e d u v x y → SameBitsBut c d s t (moved x) (moved y)
  unfolding moved
  moved_but d x y h = λ p i n.
      let q = moved_at x p i in
      let r : moved y p ≡ y q.0 = ap (by_ref (table_pins u.part v) y) (sym q.1.1.0) ∙ by_ref_is (table_pins u.part v) y once q.0 q.1.0 in
      q.1.1.1 ∙ h q.0 q.1.0 (λ k. n (domain_cross (turned al) q.0 p (pin_there q.0 q.1.0) (pin_here p i) (sym q.1.1.0) d k)) ∙ sym r

  -- the second table masks where the first does
  pub masks_along : s.domain ≡ u.domain → Masks c s t → Masks e u v
  masks_along domains m = λ d bits x y ne ax xy.
      sym (moved_output x) ∙ m d bits (moved x) (moved y) (λ h. ne (h ∙ domains)) (moved_assigned bits x ax) (moved_but d x y xy) ∙ moved_output y
