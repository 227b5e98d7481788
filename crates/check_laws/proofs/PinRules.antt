-- What the checks of pins leave: pins are fed from named cells, no table reaches itself, open pins are ignored, clocks
-- are clocks, and pins are fed from their own domain.
use Rattle.std.proofs.Common.{◌≡◌, ℕ, List, set, ◌⊎◌, inl, inr, map, Some, refl, ap, subst, ◌∙◌, true, false}
use Rattle.std.specs.Prelude.{slice_get}
use Rattle.words.specs.Members.{In}
use Rattle.words.proofs.Decided.{Decided, both}
use Rattle.records.specs.Side.{Domain}
use Rattle.links.specs.Links.{Fed}
use Rattle.fabric.specs.Wires.{Wire}
use Rattle.fabric.specs.Graph.{Graph}
use Rattle.circuit.specs.Cells.{PadCell}
use Rattle.circuit.specs.Parts.{PartRef, Kind, OfTable, OfRegister, OfInput, OfClock, Source, sources}
use Rattle.circuit.specs.Pins.{PinRef, Pin, pins, pad_pin, bit_pins, clock_pins, source_pins}
use Rattle.circuit.specs.Circuits.{Circuit}
use Rattle.circuit.specs.Domains.{HasDomain}
use Rattle.circuit.specs.Worlds.{word_bit}
use Rattle.circuit.specs.Tables.{Ignores}
use Rattle.circuit.specs.Triplicated.{OpenPinsIgnored, FedByClock, ClocksAreClocks, IsVoter, ReadsOwnDomain, NoTableLoop}
use Rattle.answers.specs.Refusals.{UnnamedSource, Loop, OpenPin, ClockAsData, NotClocked, ForeignRead}
use Rattle.attempts.specs.PinOrder.{part_cmp, pin_cmp}
use Rattle.design_checks.specs.Checks.{Passes, IsLeast}
use Rattle.design_checks.specs.PinChecks.{IsFedUnnamed, SourceUnnamed, unnamed, IsOnLoop, TablesLoop, loop, OfReadPart, of_part, of_pad, IsOpen, PinsOpen, open_pin, TakesClock, ClocksAsData, clock, IsUnclocked, RegistersUnclocked, unclocked, ReadsForeign, PinsForeign, foreign}
use Rattle.links.proofs.Members.{any_of, same_number, in_map, in_either}
use Rattle.links.proofs.Feeds.{is_fed}
use Rattle.circuit_laws.proofs.Parts.{bit_pin_listed, clock_pin_listed, pad_pin_listed}
use Rattle.circuit_laws.proofs.Sound.{Sound, FeedsFrom, to_pin, at_pin, source_same, feed_at}
use Rattle.check_laws.specs.Accepted.{FeedsAreModelled}
use Rattle.check_laws.proofs.Least.{no_least}
use Rattle.check_laws.proofs.Orders.{part_total, pin_total}
use Rattle.check_laws.proofs.Passing.{is_clock, bits_agree}
use Rattle.check_laws.proofs.Deciding.{domain_decided, some_domain, voter_decided}

-- a table ignores a pin where it can't fail to
pub ignored : (k : Kind) (n : ℕ) → ((Ignores k n → ⊥) → ⊥) → Ignores k n
ignored (OfTable t) n h = λ bits len. bits_agree (word_bit t.word (set bits n true)) (word_bit t.word (set bits n false)) (λ d. h (λ i. d (i bits len)))
ignored (OfRegister r) n h = h (λ i. i)
ignored OfInput n h = h (λ i. i)
ignored OfClock n h = h (λ i. i)

module _ (c : Circuit) where
  abbrev pin_refs : List PinRef
  pin_refs = map (λ p. p.ref) (pins c.cells)

  abbrev pub part_refs : List PartRef
  part_refs = map (λ s. s.part) (sources c.cells)

  pub part_ref_listed : (s : Source) (part : PartRef) → In (sources c.cells) s → s.part ≡ part → In part_refs part
  part_ref_listed s part i e = subst (In part_refs) e (in_map (λ (z : Source). z.part) (sources c.cells) s i)

  pin_ref_listed : (p : Pin) (ref : PinRef) → In (pins c.cells) p → p.ref ≡ ref → In pin_refs ref
  pin_ref_listed p ref i e = subst (In pin_refs) e (in_map (λ (z : Pin). z.ref) (pins c.cells) p i)

  pub source_pin_listed : (s : Source) (p : Pin) → In (sources c.cells) s → In (source_pins s) p → In (pins c.cells) p
  source_pin_listed s p i j = elim (in_either (bit_pins s) (clock_pins s) p j) [
    | inl k ↦ bit_pin_listed c.cells s p i k
    | inr k ↦ clock_pin_listed c.cells s p i k
  ]

  -- the feed of each pin is a modelled output
  pub modelled : (g : Graph) → ((o : ℕ) → In c.routing.outputs o → (wire : Wire) × (slice_get g.wires o ≡ Some wire)) → Passes (SourceUnnamed g c) → FeedsAreModelled c
  modelled g wires pass p o i f = elim (any_of (λ s. s.out ≡ o) (λ s. same_number s.out o) (sources c.cells)) [
    | inl s ↦ s
    | inr n ↦ absurd (no_least pin_cmp pin_total (λ ref. (x : ℕ) × IsFedUnnamed c ref x) pin_refs (λ ref h. pin_ref_listed h.1.pin ref h.1.listed h.1.is) none p.ref
        (o, record { pin = p; listed = i; is = refl; feeds = f; unnamed = λ s j e. n s j e }))
  ]
    where
      none : (ref : PinRef) → IsLeast pin_cmp (λ pin. (x : ℕ) × IsFedUnnamed c pin x) ref → ⊥
      none ref l = let wire = wires l.has.0 l.has.1.feeds.output in pass (UnnamedSource ref wire.0) (unnamed ref l.has.0 wire.0 l l.has.1 wire.1)

  pub no_loop : Passes (TablesLoop c) → NoTableLoop c
  no_loop pass s u rd back =
      no_least part_cmp part_total (IsOnLoop c) part_refs (λ part h. part_ref_listed h.source part h.reads.connects.source h.is) (λ part l. pass (Loop part) (loop part l)) s.part
      (record { source = s; is = refl; next = u; reads = rd; back = back })

  -- a pin that has a property of which no pin is the least doesn't have it
  none_of : (pins_of : Source → List Pin) (Has : Source → Pin → Type 0) (OfPad : PadCell → Type 0)
      → ((s : Source) (p : Pin) → In (sources c.cells) s → In (pins_of s) p → In (pins c.cells) p)
      → ((ref : PinRef) → IsLeast pin_cmp (OfReadPart c pins_of Has OfPad) ref → ⊥) → (ref : PinRef) → OfReadPart c pins_of Has OfPad ref → ⊥
  none_of pins_of Has OfPad sub none ref h = no_least pin_cmp pin_total (OfReadPart c pins_of Has OfPad) pin_refs listed none ref h
    where
      listed : (ref : PinRef) → OfReadPart c pins_of Has OfPad ref → In pin_refs ref
      listed _ (of_part s p rs ip k) = pin_ref_listed p p.ref (sub s p rs.listed ip) refl
      listed _ (of_pad p jp k) = pin_ref_listed (pad_pin p) (pad_pin p).ref (pad_pin_listed c.cells p jp) refl

  pub open_ignored : Passes (PinsOpen c) → OpenPinsIgnored c
  open_ignored pass = record {
    parts = λ s p rs ip unfed. ignored s.kind p.ref.pin (λ n. none p.ref (of_part s p rs ip (unfed, n)));
    pads = λ p jp. elim (is_fed c.routing p.wire) [ inl f ↦ f | inr n ↦ absurd (none (pad_pin p).ref (of_pad p jp n)) ];
  }
    where
      none : (ref : PinRef) → IsOpen c ref → ⊥
      none = none_of bit_pins (λ s p. (Fed c.routing p.wire → ⊥) × (Ignores s.kind p.ref.pin → ⊥)) (λ p. Fed c.routing p.wire → ⊥) (λ s p i j. bit_pin_listed c.cells s p i j)
          (λ ref l. pass (OpenPin ref) (open_pin ref l))

  module _ (ok : Sound c) where
    -- a clock pad feeds a wire, or none does
    clock_at : (w : ℕ) → Decided ((a : Source) × (FeedsFrom c a w × (a.kind ≡ OfClock)))
    clock_at w = elim (feed_at c ok w) [
      | inl a ↦ elim (is_clock a.0.kind) [
        | inl e ↦ inl (a.0, (a.1, e))
        | inr n ↦ inr (λ h. n (ap (λ z. z.kind) (source_same c ok a.0 h.0 w a.1 h.1.0) ∙ h.1.1))
      ]
      | inr n ↦ inr (λ h. n h.0 h.1.0)
    ]

    -- the clock pin of a register, or that no clock pad feeds one
    clocked_pin : (s : Source) → In (sources c.cells) s → ((p : Pin) × (In (clock_pins s) p × FedByClock c p)) ⊎ ((p : Pin) → In (clock_pins s) p → FedByClock c p → ⊥)
    clocked_pin s i = elim (any_of (λ p. (a : Source) × (FeedsFrom c a p.wire × (a.kind ≡ OfClock))) (λ p. clock_at p.wire) (clock_pins s)) [
      | inl p ↦ inl (p.0, (p.1.0, (p.1.1.0, (to_pin c p.1.1.0 p.0 (clock_pin_listed c.cells s p.0 i p.1.0) p.1.1.1.0, p.1.1.1.1))))
      | inr n ↦ inr (λ p j h. n p j (h.0, (at_pin c h.0 p h.1.0, h.1.1)))
    ]

    pub clocks : Passes (ClocksAsData c) → Passes (RegistersUnclocked c) → ClocksAreClocks c
    clocks data_pass pass = record {
      parts = λ s p rs ip h. none p.ref (of_part s p rs ip h);
      pads = λ p jp h. none (pad_pin p).ref (of_pad p jp h);
      clocked = λ s r rs ks. elim (clocked_pin s rs.listed) [
        | inl p ↦ p
        | inr n ↦ absurd (no_least part_cmp part_total (IsUnclocked c) part_refs (λ part h. part_ref_listed h.source part h.read.listed h.is) (λ part l. pass (NotClocked part) (unclocked part l)) s.part
            (record { source = s; register = r; is = refl; read = rs; is_register = ks; unclocked = n }))
      ];
    }
      where
        none : (ref : PinRef) → TakesClock c ref → ⊥
        none = none_of bit_pins (λ s p. FedByClock c p) (λ p. FedByClock c (pad_pin p)) (λ s p i j. bit_pin_listed c.cells s p i j) (λ ref l. data_pass (ClockAsData ref) (clock ref l))

    pub own : Passes (PinsForeign c) → ReadsOwnDomain c
    own pass = record {
      parts = λ s p rs ip f. elim (domain_decided c ok p.wire s.domain) [
        | inl h ↦ inl h
        | inr n ↦ elim (both (voter_decided c s.part) (some_domain c ok p.wire)) [
          | inl h ↦ inr h
          | inr m ↦ absurd (none p.ref (of_part s p rs ip (f, (n, m))))
        ]
      ];
      pads = λ p jp f. elim (domain_decided c ok p.wire p.domain) [ inl h ↦ h | inr n ↦ absurd (none (pad_pin p).ref (of_pad p jp (f, n))) ];
    }
      where
        none : (ref : PinRef) → ReadsForeign c ref → ⊥
        none = none_of source_pins (λ s p. Fed c.routing p.wire × ((HasDomain c p.wire s.domain → ⊥) × (IsVoter c s.part × ((d : Domain) × HasDomain c p.wire d) → ⊥)))
            (λ p. Fed c.routing p.wire × (HasDomain c p.wire p.domain → ⊥)) source_pin_listed (λ ref l. pass (ForeignRead ref) (foreign ref l))
