-- In one cycle the undisturbed world and the faulty one agree on each read part outside the domain of the fault, where
-- the registers outside it hold the same bits.
use Rattle.std.proofs.Common.{◌≡◌, ◌≢◌, ℕ, zero, suc, Bool, length, ◌⊎◌, inl, inr, refl, sym, ap, subst, ◌∙◌}
use Rattle.words.specs.Members.{In}
use Rattle.links.specs.Links.{Feeds, Fed}
use Rattle.records.specs.Side.{Domain, Triple}
use Rattle.circuit.specs.Cells.{TableCell, RegisterCell}
use Rattle.circuit.specs.Parts.{Kind, OfTable, OfRegister, OfInput, OfClock, Source, sources}
use Rattle.circuit.specs.Pins.{Pin, bit_pins, clock_pins, table_pins}
use Rattle.circuit.specs.Circuits.{Circuit, IsReadBy}
use Rattle.circuit.specs.Domains.{HasDomain}
use Rattle.circuit.specs.Worlds.{Bit, World, bit_of, table_output, carried_by, carried}
use Rattle.circuit.specs.Faults.{Fault, no_fault, FaultHas}
use Rattle.circuit.specs.Runs.{IsCycle}
use Rattle.circuit.specs.Tables.{Ignores}
use Rattle.circuit.specs.Triplicated.{ReadPart, IsVoter, IsTriplicated}
use Rattle.links.proofs.Members.{in_left}
use Rattle.links.proofs.Feeds.{is_fed}
use Rattle.circuit_laws.proofs.Parts.{source_lies, table_bit}
use Rattle.circuit_laws.proofs.Sound.{Sound, FeedsFrom, at_pin, has_domain, feeds_own}
use Rattle.circuit_laws.proofs.Depth.{Deep}
use Rattle.circuit_laws.proofs.Assign.{SameBits, assigned}
use Rattle.circuit_laws.proofs.Words.{Indifferent, same_output}
use Rattle.circuit_laws.proofs.Cycle.{bits_same, carry, NoClock, read_at, reads_at, steady, out_is, is_bit, pins_same}
use Rattle.circuit_laws.proofs.Copies.{HeldAlike, dry, copies}

-- read registers outside a domain hold the same bit in both worlds
abbrev pub HeldOutside : Circuit → Domain → World → World → Type 0
HeldOutside c d v w = (s : Source) (r : RegisterCell) → ReadPart c s → s.domain ≢ d → s.kind ≡ OfRegister r → v.part s.part ≡ w.part s.part

-- the part that feeds a pin of a read part, and its domain: the part's own, or any where the part is a voter
pub record Feeder (c : Circuit) (s : Source) (p : Pin) : Type 0 where
  pub source : Source
  pub feeds : FeedsFrom c source p.wire
  pub own : (source.domain ≡ s.domain) ⊎ IsVoter c s.part

feeder_of : (c : Circuit) (s : Source) (p : Pin)
    → HasDomain c p.wire s.domain ⊎ (IsVoter c s.part × ((d : Domain) × HasDomain c p.wire d)) → Feeder c s p
feeder_of c s p h = elim h [
  | inl g ↦ record { source = g.source; feeds = record { source = g.listed; feeds = g.feeds }; own = inl g.domain }
  | inr g ↦ (let k = g.1.1 in record { source = k.source; feeds = record { source = k.listed; feeds = k.feeds }; own = inr g.0 })
]

pub feeder : (c : Circuit) → IsTriplicated c → (s : Source) (p : Pin) → ReadPart c s → In (bit_pins s) p → Fed c.routing p.wire → Feeder c s p
feeder c tri s p rs ip fed = feeder_of c s p (tri.own.parts s p rs (in_left (bit_pins s) (clock_pins s) p ip) fed)

module _ (c : Circuit) (ok : Sound c) (tri : IsTriplicated c) (input : Triple → Bool) (v : World) (iv : IsCycle c no_fault input v)
    (f : Fault) (d : Domain) (within : (e : Domain) → FaultHas c f e → e ≡ d) (w : World) (iw : IsCycle c f input w) where
  -- no wire that a part outside the domain feeds is disturbed
  clear : (a : Source) → In (sources c.cells) a → a.domain ≢ d → (x : ℕ) → Feeds c.routing a.out x → In f.disturbed x → ⊥
  clear a i out x g h = out (within a.domain (inl (x, (h, has_domain c ok a x (record { source = i; feeds = g })))))

  untouched : (a : Source) → In (sources c.cells) a → a.domain ≢ d → In f.touched a.part.cell → ⊥
  untouched a i out h = out (within a.domain (inr (a.part.cell, (h, source_lies c.cells a i))))

  pub steady_out : (a : Source) (x : ℕ) → a.domain ≢ d → FeedsFrom c a x → w.wire x ≡ w.wire a.out
  steady_out a x out g = carry c f input w iw a.out x g.feeds (clear a g.source out)

  pub out_outside : (a : Source) → In (sources c.cells) a → a.domain ≢ d → w.wire a.out ≡ carried c.side input w a
  out_outside a i out = iw.outputs a i (clear a i out a.out (feeds_own c ok a i).feeds) (untouched a i out)

  -- a pin fed from outside the domain counts as one bit in both worlds
  pub pin_outside : (s a : Source) (p : Pin) → In (sources c.cells) s → In (bit_pins s) p → NoClock a.kind → FeedsFrom c a p.wire
      → a.domain ≢ d → v.wire a.out ≡ w.wire a.out → bit_of v p ≡ bit_of w p
  pin_outside s a p js ip bits g out e =
      let b = is_bit c ok input v iv a p.wire bits g in
      bits_same (v.wire p.wire) (w.wire p.wire) b.0 (bit_of v p) (bit_of w p)
      (steady c ok input v iv a p.wire g ∙ (e ∙ sym (steady_out a p.wire out g))) b.1 (iv.pins s p js ip) (iw.pins s p js ip)

  -- the bit of the faulty world at a pin with a feed, of the undisturbed one at an open pin
  choose : (p : Pin) → Fed c.routing p.wire ⊎ (Fed c.routing p.wire → ⊥) → Bool
  choose p (inl x) = bit_of w p
  choose p (inr x) = bit_of v p

  mixed : Pin → Bool
  mixed p = choose p (is_fed c.routing p.wire)

  AgreesAbove : Source → Type 0
  AgreesAbove s = (u : Source) → IsReadBy c u s → ReadPart c u → u.domain ≢ d → v.wire u.out ≡ w.wire u.out

  -- mixed bits are those of the undisturbed world but at pins fed from the domain
  mixed_undisturbed : (s : Source) (t : TableCell) (p : Pin) → ReadPart c s → s.kind ≡ OfTable t → In (table_pins s.part t) p
      → AgreesAbove s → (HasDomain c p.wire d → ⊥)
      → (x : Fed c.routing p.wire ⊎ (Fed c.routing p.wire → ⊥)) → bit_of v p ≡ choose p x
  unfolding choose AgreesAbove
  mixed_undisturbed s t p rs ks ip agrees away (inr x) = refl
  mixed_undisturbed s t p rs ks ip agrees away (inl x) =
      let bp = table_bit s t ks p ip in
      let g = feeder c tri s p rs bp x in
      let out : g.source.domain ≢ d = λ e. away (subst (HasDomain c p.wire) e (has_domain c ok g.source p.wire g.feeds)) in
      pin_outside s g.source p rs.listed bp (dry c tri s g.source p rs bp g.feeds) g.feeds out
      (agrees g.source (reads_at c s g.source t p rs.listed ks ip g.feeds) (read_at c s g.source p rs.listed bp g.feeds) out)

  -- and those of the faulty world but at open pins, which the table ignores
  mixed_faulty : (s : Source) (t : TableCell) (p : Pin) → ReadPart c s → s.kind ≡ OfTable t → In (table_pins s.part t) p
      → (x : Fed c.routing p.wire ⊎ (Fed c.routing p.wire → ⊥)) → (choose p x ≡ bit_of w p) ⊎ Indifferent (length t.pins) t.word p.ref.pin
  unfolding choose
  mixed_faulty s t p rs ks ip (inl x) = inl refl
  mixed_faulty s t p rs ks ip (inr x) = inr (subst (λ k. Ignores k p.ref.pin) ks (tri.open_pins.parts s p rs (table_bit s t ks p ip) x))

  own_bits : (k : ℕ) (s : Source) (t : TableCell) → ReadPart c s → s.kind ≡ OfTable t → HeldAlike c v → Deep c (suc k) s
      → SameBits c (table_pins s.part t) (table_pins s.part t) (bit_of v) (bit_of v)
  own_bits k s t rs ks held deep = λ p q a b ip iq fa fb same.
      let bp = table_bit s t ks p ip in
      let bq = table_bit s t ks q iq in
      let da = dry c tri s a p rs bp fa in
      let db = dry c tri s b q rs bq fb in
      pins_same c ok input v iv s s p q a b rs.listed rs.listed bp bq da fa fb
      (copies c ok tri input v iv k held a b (read_at c s a p rs.listed bp fa) (read_at c s b q rs.listed bq fb) same da db (deep a (reads_at c s a t p rs.listed ks ip fa)) (deep b (reads_at c s b t q rs.listed ks iq fb)))

  agree_by : (k : ℕ) (s : Source) (x : Kind) → ReadPart c s → s.domain ≢ d → s.kind ≡ x → HeldAlike c v → HeldOutside c d v w
      → Deep c (suc k) s → AgreesAbove s
      → carried_by c.side input v s.part x ≡ carried_by c.side input w s.part x
  unfolding mixed
  agree_by k s (OfTable t) rs out ks held outside deep agrees =
      let given = assigned c ok (bit_of v) (table_pins s.part t) (own_bits k s t rs ks held deep) in
      let one_domain : table_output s.part t (bit_of v) ≡ table_output s.part t mixed =
      tri.masks s t rs ks d given.0 (bit_of v) mixed (λ e. out (sym e)) (λ p a i cn. given.1 p a i (at_pin c a p cn)) (λ p i away. mixed_undisturbed s t p rs ks i agrees away (is_fed c.routing p.wire)) in
      let open_ones : table_output s.part t mixed ≡ table_output s.part t (bit_of w) = same_output s.part t mixed (bit_of w) (λ p i. mixed_faulty s t p rs ks i (is_fed c.routing p.wire)) in
      ap Bit (iv.tables s t rs.listed ks ∙ (one_domain ∙ (open_ones ∙ sym (iw.tables s t rs.listed ks))))
  agree_by k s (OfRegister r) rs out ks held outside deep agrees = ap Bit (outside s r rs out ks)
  agree_by k s OfInput rs out ks held outside deep agrees = refl
  agree_by k s OfClock rs out ks held outside deep agrees = refl

  pub agree : (k : ℕ) (s : Source) → ReadPart c s → s.domain ≢ d → HeldAlike c v → HeldOutside c d v w → Deep c k s → v.wire s.out ≡ w.wire s.out
  unfolding AgreesAbove
  agree zero s rs out held outside deep = absurd deep
  agree (suc k) s rs out held outside deep =
      out_is c ok input v iv s rs.listed ∙ (agree_by k s s.kind rs out refl held outside deep
      (λ u rd ru away. agree k u ru away held outside (deep u rd)) ∙ sym (out_outside s rs.listed out))
