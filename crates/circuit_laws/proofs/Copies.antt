-- In an undisturbed cycle the read copies of a part carry one value, where the registers among them hold one bit.
use Rattle.std.proofs.Common.{◌≡◌, ℕ, zero, suc, Bool, refl, sym, ap, subst, ◌∙◌}
use Rattle.words.specs.Members.{In}
use Rattle.records.specs.Side.{Triple}
use Rattle.circuit.specs.Cells.{TableCell, RegisterCell}
use Rattle.circuit.specs.Parts.{PartKind, Table, Register, Pad, Kind, OfTable, OfRegister, OfInput, OfClock, Source}
use Rattle.circuit.specs.Pins.{Pin, bit_pins, table_pins}
use Rattle.circuit.specs.Circuits.{Circuit}
use Rattle.circuit.specs.Worlds.{Bit, World, bit_of, carried_by}
use Rattle.circuit.specs.Faults.{no_fault}
use Rattle.circuit.specs.Runs.{IsCycle}
use Rattle.circuit.specs.Triplicated.{ReadPart, IsTriplicated}
use Rattle.circuit_laws.proofs.Parts.{Fits, kind_fits, bit_pin_listed, table_bit}
use Rattle.circuit_laws.proofs.Sound.{Sound, FeedsFrom, to_pin, at_pin}
use Rattle.circuit_laws.proofs.Depth.{Deep}
use Rattle.circuit_laws.proofs.Assign.{group, SameBits, assigned_both}
use Rattle.circuit_laws.proofs.Cycle.{NoClock, read_at, reads_at, out_is, pins_same}

-- read registers of a triple hold one bit
abbrev pub HeldAlike : Circuit → World → Type 0
HeldAlike c v = (s u : Source) (q r : RegisterCell) → ReadPart c s → ReadPart c u → group c s ≡ group c u → s.kind ≡ OfRegister q → u.kind ≡ OfRegister r → v.part s.part ≡ v.part u.part

-- kinds that fit one kind of part, but for clock pads, are alike
abbrev pub Pairs : Kind → Kind → Type 0
Pairs (OfTable t) (OfTable v) = Unit {0}
Pairs (OfRegister q) (OfRegister r) = Unit {0}
Pairs OfInput OfInput = Unit {0}
Pairs _ _ = ⊥

pair_up : (p : PartKind) (x y : Kind) → Fits p x → Fits p y → NoClock x → NoClock y → Pairs x y
pair_up (Table n) (OfTable t) (OfTable v) fx fy dx dy = tt
pair_up (Table n) (OfTable t) _ fx fy dx dy = absurd fy
pair_up (Table n) _ y fx fy dx dy = absurd fx
pair_up (Register n) (OfRegister q) (OfRegister r) fx fy dx dy = tt
pair_up (Register n) (OfRegister q) _ fx fy dx dy = absurd fy
pair_up (Register n) _ y fx fy dx dy = absurd fx
pair_up Pad OfInput OfInput fx fy dx dy = tt
pair_up Pad OfInput OfClock fx fy dx dy = absurd (dy refl)
pair_up Pad OfInput _ fx fy dx dy = absurd fy
pair_up Pad OfClock y fx fy dx dy = absurd (dx refl)
pair_up Pad _ y fx fy dx dy = absurd fx

-- what feeds a bit pin of a read part is no clock pad
pub dry : (c : Circuit) → IsTriplicated c → (s a : Source) (p : Pin) → ReadPart c s → In (bit_pins s) p → FeedsFrom c a p.wire → NoClock a.kind
dry c tri s a p rs ip f = λ e. tri.clocks.parts s p rs ip (a, (to_pin c a p (bit_pin_listed c.cells s p rs.listed ip) f, e))

module _ (c : Circuit) (ok : Sound c) (tri : IsTriplicated c) (input : Triple → Bool) (w : World) (iw : IsCycle c no_fault input w) where
  -- copies that are k deep carry one value
  Level : ℕ → Type 0
  Level k = (s u : Source) → ReadPart c s → ReadPart c u → group c s ≡ group c u → NoClock s.kind → NoClock u.kind → Deep c k s → Deep c k u → w.wire s.out ≡ w.wire u.out

  same_bits : (k : ℕ) (s u : Source) (t v : TableCell) → ReadPart c s → ReadPart c u → s.kind ≡ OfTable t → u.kind ≡ OfTable v
      → Level k → Deep c (suc k) s → Deep c (suc k) u
      → SameBits c (table_pins s.part t) (table_pins u.part v) (bit_of w) (bit_of w)
  unfolding Level
  same_bits k s u t v rs ru ks ku level ds du = λ p q a b ip iq fa fb same.
      let bp = table_bit s t ks p ip in
      let bq = table_bit u v ku q iq in
      let da = dry c tri s a p rs bp fa in
      let db = dry c tri u b q ru bq fb in
      pins_same c ok input w iw s u p q a b rs.listed ru.listed bp bq da fa fb
      (level a b (read_at c s a p rs.listed bp fa) (read_at c u b q ru.listed bq fb) same da db (ds a (reads_at c s a t p rs.listed ks ip fa)) (du b (reads_at c u b v q ru.listed ku iq fb)))

  copies_by : (k : ℕ) (s u : Source) (x y : Kind) → ReadPart c s → ReadPart c u → group c s ≡ group c u → s.kind ≡ x → u.kind ≡ y
      → HeldAlike c w → Level k → Deep c (suc k) s → Deep c (suc k) u → Pairs x y
      → carried_by c.side input w s.part x ≡ carried_by c.side input w u.part y
  copies_by k s u (OfTable t) (OfTable v) rs ru same ks ku held level ds du pairs =
      let g = assigned_both c ok (bit_of w) (table_pins s.part t) (table_pins u.part v) (same_bits k s s t t rs rs ks ks level ds ds) (same_bits k u u v v ru ru ku ku level du du) (same_bits k s u t v rs ru ks ku level ds du) in
      ap Bit (iw.tables s t rs.listed ks
      ∙ (tri.copies.tables s u t v rs ru ks ku same g.0 (bit_of w) (bit_of w) (λ p a i cn. g.1.0 p a i (at_pin c a p cn)) (λ p a i cn. g.1.1 p a i (at_pin c a p cn)) ∙ sym (iw.tables u v ru.listed ku)))
  copies_by k s u (OfRegister q) (OfRegister r) rs ru same ks ku held level ds du pairs = ap Bit (held s u q r rs ru same ks ku)
  copies_by k s u OfInput OfInput rs ru same ks ku held level ds du pairs = ap (λ z. Bit (input z.cells)) same
  copies_by k s u _ _ rs ru same ks ku held level ds du pairs = absurd pairs

  copies_at : (k : ℕ) → HeldAlike c w → Level k
  unfolding Level
  copies_at zero held = λ s u rs ru same cs cu ds du. absurd ds
  copies_at (suc k) held = λ s u rs ru same cs cu ds du.
      let fits : Fits u.part.part s.kind = subst (λ z. Fits z s.kind) (ap (λ z. z.part) same) (kind_fits c.cells s rs.listed) in
      let pairs = pair_up u.part.part s.kind u.kind fits (kind_fits c.cells u ru.listed) cs cu in
      out_is c ok input w iw s rs.listed ∙ (copies_by k s u s.kind u.kind rs ru same refl refl held (copies_at k held) ds du pairs ∙ sym (out_is c ok input w iw u ru.listed))

  pub copies : (k : ℕ) → HeldAlike c w → (s u : Source) → ReadPart c s → ReadPart c u → group c s ≡ group c u → NoClock s.kind
      → NoClock u.kind → Deep c k s → Deep c k u → w.wire s.out ≡ w.wire u.out
  unfolding Level
  copies k held = copies_at k held
