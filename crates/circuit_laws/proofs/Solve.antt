-- The one world of a cycle that follows a choice, given the bits that registers hold: the wires are the fixed point of
-- one local step.
use Rattle.std.proofs.Common.{◌≡◌, ℕ, zero, suc, Bool, List, [], ◌∷◌, map, ◌⊎◌, inl, inr, refl, sym, ap, ◌∙◌}
use Rattle.words.specs.Members.{In}
use Rattle.links.specs.Links.{Counting}
use Rattle.records.specs.Side.{Triple}
use Rattle.circuit.specs.Cells.{TableCell, RegisterCell}
use Rattle.circuit.specs.Parts.{PartRef, Kind, OfTable, OfRegister, OfInput, OfClock, Source, sources}
use Rattle.circuit.specs.Pins.{Pin, table_pins}
use Rattle.circuit.specs.Triples.{triple_with}
use Rattle.circuit.specs.Circuits.{Circuit}
use Rattle.circuit.specs.Worlds.{Value, Bit, Clock, World, word_bit, table_output, CountsAs}
use Rattle.circuit.specs.Faults.{Fault}
use Rattle.circuit.specs.Triplicated.{NoTableLoop}
use Rattle.links.proofs.Members.{is_in, same_number}
use Rattle.links.proofs.Feeds.{driver}
use Rattle.circuit_laws.proofs.Same.{same_name}
use Rattle.circuit_laws.proofs.Sound.{Sound}
use Rattle.circuit_laws.proofs.Settle.{Settles, named_at, settled}

-- the bit that a value counts as, `clock` as a given one
abbrev pub counted : Value → Bool → Bool
counted (Bit b) x = b
counted Clock x = x

pub counts : (x : Value) (b : Bool) → CountsAs x (counted x b)
counts (Bit a) b = refl
counts Clock b = tt

pub counted_clock : (x : Value) (b : Bool) → x ≡ Clock → counted x b ≡ b
counted_clock x b e = ap (λ z. counted z b) e

pub counted_is : (x : Value) (b p : Bool) → CountsAs x p → (x ≡ Clock → p ≡ b) → p ≡ counted x b
counted_is (Bit a) b p h g = h
counted_is Clock b p h g = g refl

map_same : (x y : Pin → Bool) (ps : List Pin) → ((p : Pin) → In ps p → x p ≡ y p) → map x ps ≡ map y ps
map_same x y [] h = refl
map_same x y (p ∷ ps) h = ap (λ b. b ∷ map x ps) (h p (inl refl)) ∙ ap (λ bs. y p ∷ bs) (map_same x y ps (λ q j. h q (inr j)))

pub output_same : (part : PartRef) (t : TableCell) (x y : Pin → Bool) → ((p : Pin) → In (table_pins part t) p → x p ≡ y p)
    → table_output part t x ≡ table_output part t y
output_same part t x y h = ap (word_bit t.word) (map_same x y (table_pins part t) h)

abbrev pub Decided : Type 0 → Type 0
Decided P = P ⊎ (P → ⊥)

pub is_disturbed : (f : Fault) (a : ℕ) → Decided (In f.disturbed a)
is_disturbed f a = is_in same_number f.disturbed a

pub is_touched : (f : Fault) (name : List ℕ) → Decided (In f.touched name)
is_touched f name = is_in same_name f.touched name

-- the one value where a fact holds, else the other
abbrev pub pick : {P X : Type 0} → Decided P → X → X → X
pick (inl h) x y = x
pick (inr h) x y = y

pub picked : {P X : Type 0} (d : Decided P) (x y : X) → P → pick d x y ≡ x
picked (inl h) x y p = refl
picked (inr h) x y p = absurd (h p)

pub passed : {P X : Type 0} (d : Decided P) (x y : X) → (P → ⊥) → pick d x y ≡ y
passed (inl h) x y n = absurd (n h)
passed (inr h) x y n = refl

-- the part whose output a wire is
abbrev pub NamedAt : Circuit → ℕ → Type 0
NamedAt c a = ((s : Source) × (In (sources c.cells) s × (s.out ≡ a))) ⊎ ((s : Source) → In (sources c.cells) s → s.out ≡ a → ⊥)

abbrev pub DrivenBy : Circuit → ℕ → Type 0
DrivenBy c a = ((b : ℕ) × Counting c.routing b a) ⊎ ((b : ℕ) → Counting c.routing b a → ⊥)

module _ (c : Circuit) (ok : Sound c) (free : NoTableLoop c) (f : Fault) (input : Triple → Bool) (choice : World) where
  abbrev pub pin_bit : (ℕ → Value) → Pin → Bool
  pin_bit v p = counted (v p.wire) (choice.pin p.ref)

  -- what the output of a part carries, by the bits that registers hold and the values of wires
  abbrev pub gives : (PartRef → Bool) → (ℕ → Value) → PartRef → Kind → Value
  gives held v part (OfTable t) = Bit (table_output part t (pin_bit v))
  gives held v part (OfRegister r) = Bit (held part)
  gives held v part OfInput = Bit (input (triple_with c.side part.cell))
  gives held v part OfClock = Clock

  abbrev pub from_part : (PartRef → Bool) → (ℕ → Value) → Source → Value
  from_part held v s = pick (is_touched f s.part.cell) (choice.wire s.out) (gives held v s.part s.kind)

  abbrev pub loose_or : (PartRef → Bool) → (ℕ → Value) → (a : ℕ) → NamedAt c a → Value
  loose_or held v a (inl x) = from_part held v x.0
  loose_or held v a (inr x) = choice.wire a

  abbrev pub driven_or : (PartRef → Bool) → (ℕ → Value) → (a : ℕ) → DrivenBy c a → Value
  driven_or held v a (inl b) = v b.0
  driven_or held v a (inr n) = loose_or held v a (named_at c a)

  -- what a wire carries by what stands right before it
  abbrev pub step : (PartRef → Bool) → (ℕ → Value) → ℕ → Value
  step held v a = pick (is_disturbed f a) (choice.wire a) (driven_or held v a (driver c.routing a))

  abbrev pub HeldSame : (PartRef → Bool) → (PartRef → Bool) → Type 0
  HeldSame g h = (s : Source) (r : RegisterCell) → In (sources c.cells) s → s.kind ≡ OfRegister r → g s.part ≡ h s.part

  -- the step goes by few wires: the counting driver, or the pins of the table
  gives_local : (g h : PartRef → Bool) (v w : ℕ → Value) (s : Source) (k : Kind) → In (sources c.cells) s → s.kind ≡ k → HeldSame g h
      → ((t : TableCell) → s.kind ≡ OfTable t → (p : Pin) → In (table_pins s.part t) p → v p.wire ≡ w p.wire) → gives g v s.part k ≡ gives h w s.part k
  gives_local g h v w s (OfTable t) js ks held same = ap Bit (output_same s.part t (pin_bit v) (pin_bit w) (λ p ip. ap (λ z. counted z (choice.pin p.ref)) (same t ks p ip)))
  gives_local g h v w s (OfRegister r) js ks held same = ap Bit (held s r js ks)
  gives_local g h v w s OfInput js ks held same = refl
  gives_local g h v w s OfClock js ks held same = refl

  loose_local : (g h : PartRef → Bool) (v w : ℕ → Value) (a : ℕ) (x : NamedAt c a) → HeldSame g h
      → ((s : Source) (t : TableCell) → In (sources c.cells) s → s.kind ≡ OfTable t → s.out ≡ a → (p : Pin) → In (table_pins s.part t) p → v p.wire ≡ w p.wire) → loose_or g v a x ≡ loose_or h w a x
  loose_local g h v w a (inl x) held same = ap (pick (is_touched f x.0.part.cell) (choice.wire x.0.out)) (gives_local g h v w x.0 x.0.kind x.1.0 refl held (λ t ks p ip. same x.0 t x.1.0 ks x.1.1 p ip))
  loose_local g h v w a (inr x) held same = refl

  driven_local : (g h : PartRef → Bool) (v w : ℕ → Value) (a : ℕ) (o : DrivenBy c a) → HeldSame g h
      → ((b : ℕ) → Counting c.routing b a → v b ≡ w b)
      → ((s : Source) (t : TableCell) → In (sources c.cells) s → s.kind ≡ OfTable t → s.out ≡ a → (p : Pin) → In (table_pins s.part t) p → v p.wire ≡ w p.wire) → driven_or g v a o ≡ driven_or h w a o
  driven_local g h v w a (inl b) held by_driver by_pins = by_driver b.0 b.1
  driven_local g h v w a (inr n) held by_driver by_pins = loose_local g h v w a (named_at c a) held by_pins

  step_local : (g h : PartRef → Bool) (v w : ℕ → Value) (a : ℕ) → HeldSame g h → ((b : ℕ) → Counting c.routing b a → v b ≡ w b)
      → ((s : Source) (t : TableCell) → In (sources c.cells) s → s.kind ≡ OfTable t → s.out ≡ a → (p : Pin) → In (table_pins s.part t) p → v p.wire ≡ w p.wire) → step g v a ≡ step h w a
  step_local g h v w a held by_driver by_pins = ap (pick (is_disturbed f a) (choice.wire a)) (driven_local g h v w a (driver c.routing a) held by_driver by_pins)

  -- two solutions are one
  pub unique : (g h : PartRef → Bool) (v w : ℕ → Value) → HeldSame g h → ((a : ℕ) → v a ≡ step g v a)
      → ((a : ℕ) → w a ≡ step h w a) → (k a : ℕ) → Settles c k a → v a ≡ w a
  unique g h v w held sv sw zero a s = absurd s
  unique g h v w held sv sw (suc k) a s =
      sv a ∙ (step_local g h v w a held (λ b e. unique g h v w held sv sw k b (s.0 b e)) (λ u t j ks e p ip. unique g h v w held sv sw k p.wire (s.1 u t j ks e p ip)) ∙ sym (sw a))

  -- the values after k steps, from the choice on
  abbrev after : (PartRef → Bool) → ℕ → ℕ → Value
  after held zero a = choice.wire a
  after held (suc k) a = step held (after held k) a

  itself : (h : PartRef → Bool) → HeldSame h h
  itself h = λ s r js ks. refl

  stable : (h : PartRef → Bool) (j k a : ℕ) → Settles c j a → Settles c k a → after h j a ≡ after h k a
  stable h zero k a x y = absurd x
  stable h (suc j) zero a x y = absurd y
  stable h (suc j) (suc k) a x y = step_local h h (after h j) (after h k) a (itself h)
      (λ b e. stable h j k b (x.0 b e) (y.0 b e)) (λ u t ju ku e p ip. stable h j k p.wire (x.1 u t ju ku e p ip) (y.1 u t ju ku e p ip))

  pub solved : (PartRef → Bool) → ℕ → Value
  solved h a = after h (settled c ok free a).0 a

  fixed_at : (h : PartRef → Bool) (k a : ℕ) → Settles c k a → after h k a ≡ step h (solved h) a
  unfolding solved
  fixed_at h zero a x = absurd x
  fixed_at h (suc k) a x = step_local h h (after h k) (solved h) a (itself h)
      (λ b e. stable h k (settled c ok free b).0 b (x.0 b e) (settled c ok free b).1)
      (λ u t ju ku e p ip. stable h k (settled c ok free p.wire).0 p.wire (x.1 u t ju ku e p ip) (settled c ok free p.wire).1)

  pub fixed : (h : PartRef → Bool) (a : ℕ) → solved h a ≡ step h (solved h) a
  unfolding solved
  fixed h a = fixed_at h (settled c ok free a).0 a (settled c ok free a).1
