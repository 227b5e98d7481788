-- What stands on the wires that a part feeds, and at the pins there.
use Rattle.std.proofs.Common.{◌≡◌, ℕ, Bool, refl, sym, subst, ◌∙◌}
use Rattle.words.specs.Members.{In}
use Rattle.links.specs.Links.{here, onto, Below, Feeds}
use Rattle.records.specs.Side.{Triple}
use Rattle.circuit.specs.Cells.{TableCell}
use Rattle.circuit.specs.Parts.{PartRef, Kind, OfTable, OfRegister, OfInput, OfClock, Source, sources}
use Rattle.circuit.specs.Pins.{Pin, bit_pins, table_pins}
use Rattle.circuit.specs.Circuits.{Circuit, IsReadBy}
use Rattle.circuit.specs.Worlds.{Value, Bit, World, CountsAs, carried_by, carried}
use Rattle.circuit.specs.Faults.{Fault, no_fault}
use Rattle.circuit.specs.Runs.{IsCycle}
use Rattle.circuit.specs.Triplicated.{ReadPart}
use Rattle.circuit_laws.proofs.Sound.{Sound, FeedsFrom, to_pin}
use Rattle.circuit_laws.proofs.Parts.{bit_pin_listed, table_bit}

-- equal values that are a bit count as one bit
pub bits_same : (x y : Value) (b p q : Bool) → x ≡ y → x ≡ Bit b → CountsAs x p → CountsAs y q → p ≡ q
bits_same x y b p q e is cx cy =
    let cp : p ≡ b = subst (λ z. CountsAs z p) is cx in
    let cq : q ≡ b = subst (λ z. CountsAs z q) (sym e ∙ is) cy in
    cp ∙ sym cq

-- the wires from a cell output on carry one value where none of them that it feeds is disturbed
carry_along : (c : Circuit) (f : Fault) (input : Triple → Bool) (w : World) → IsCycle c f input w → (o : ℕ)
    → In c.routing.outputs o → ((x : ℕ) → Feeds c.routing o x → In f.disturbed x → ⊥)
    → {a : ℕ} → Below c.routing o a → w.wire a ≡ w.wire o
carry_along c f input w is o out clear here = refl
carry_along c f input w is o out clear {a} (onto {b} q s) =
    is.driven a b (clear a (record { output = out; reach = onto q s })) (s, (o, record { output = out; reach = q })) ∙ carry_along c f input w is o out clear q

pub carry : (c : Circuit) (f : Fault) (input : Triple → Bool) (w : World) → IsCycle c f input w → (o a : ℕ) → Feeds c.routing o a
    → ((x : ℕ) → Feeds c.routing o x → In f.disturbed x → ⊥) → w.wire a ≡ w.wire o
carry c f input w is o a feeds clear = carry_along c f input w is o feeds.output clear feeds.reach

-- the output of a part that is no clock pad carries a bit
abbrev pub NoClock : Kind → Type 0
NoClock k = k ≡ OfClock → ⊥

pub carried_bit : (c : Circuit) (input : Triple → Bool) (w : World) (part : PartRef) (k : Kind) → NoClock k
    → (b : Bool) × (carried_by c.side input w part k ≡ Bit b)
carried_bit c input w part (OfTable t) h = (w.part part, refl)
carried_bit c input w part (OfRegister r) h = (w.part part, refl)
carried_bit c input w part OfInput h = (_, refl)
carried_bit c input w part OfClock h = absurd (h refl)

-- a part that feeds a pin of a part is read
pub read_at : (c : Circuit) (s u : Source) (p : Pin) → In (sources c.cells) s → In (bit_pins s) p → FeedsFrom c u p.wire → ReadPart c u
read_at c s u p js ip f = record { listed = f.source; read = (p, to_pin c u p (bit_pin_listed c.cells s p js ip) f) }

-- as is one that a table reads
pub reads_at : (c : Circuit) (s u : Source) (t : TableCell) (p : Pin) → In (sources c.cells) s → s.kind ≡ OfTable t
    → In (table_pins s.part t) p → FeedsFrom c u p.wire → IsReadBy c u s
reads_at c s u t p js ks ip f = record {
  table = t;
  is_table = ks;
  listed = js;
  pin = p;
  takes = ip;
  connects = to_pin c u p (bit_pin_listed c.cells s p js (table_bit s t ks p ip)) f;
}

module _ (c : Circuit) (ok : Sound c) (input : Triple → Bool) (v : World) (iv : IsCycle c no_fault input v) where
  -- undisturbed, a wire carries what the output that feeds it carries
  pub steady : (a : Source) (w : ℕ) → FeedsFrom c a w → v.wire w ≡ v.wire a.out
  steady a w f = carry c no_fault input v iv a.out w f.feeds (λ x g h. h)

  pub out_is : (a : Source) → In (sources c.cells) a → v.wire a.out ≡ carried c.side input v a
  out_is a i = iv.outputs a i (λ h. h) (λ h. h)

  -- a wire that a part feeds which is no clock pad carries a bit
  pub is_bit : (a : Source) (w : ℕ) → NoClock a.kind → FeedsFrom c a w → (b : Bool) × (v.wire w ≡ Bit b)
  is_bit a w dry f = (let g = carried_bit c input v a.part a.kind dry in (g.0, steady a w f ∙ (out_is a f.source ∙ g.1)))

  -- pins fed by equal outputs count as one bit
  pub pins_same : (s u : Source) (p q : Pin) (a b : Source) → In (sources c.cells) s → In (sources c.cells) u → In (bit_pins s) p
      → In (bit_pins u) q → NoClock a.kind → FeedsFrom c a p.wire → FeedsFrom c b q.wire
      → v.wire a.out ≡ v.wire b.out → v.pin p.ref ≡ v.pin q.ref
  pins_same s u p q a b js ju ip iq dry fa fb e =
      let g = is_bit a p.wire dry fa in
      bits_same (v.wire p.wire) (v.wire q.wire) g.0 (v.pin p.ref) (v.pin q.ref) (steady a p.wire fa ∙ (e ∙ sym (steady b q.wire fb))) g.1 (iv.pins s p js ip) (iv.pins u q ju iq)
