-- The rules of triplicated circuits, as tests that a circuit may pass. They are asked of all parts, read or not.
use Rattle.std.proofs.Common.{◌≡◌, ◌≢◌, ℕ, Bool, true, false, not, List, length, set, ◌⊎◌, inl, inr, refl, ap, subst, ◌&&◌, ◌||◌, eqb}
use Rattle.std.specs.List.{list_all, list_any}
use Rattle.words.specs.Members.{In}
use Rattle.links.specs.Links.{Fed}
use Rattle.records.specs.Side.{Domain, D0, D1, D2, Triple, Voter}
use Rattle.circuit.specs.Cells.{TableCell, PadCell}
use Rattle.circuit.specs.Parts.{PartKind, Table, Register, Pad, PartRef, Kind, OfTable, OfRegister, OfInput, OfClock, Source, sources, output_pads}
use Rattle.circuit.specs.Pins.{Pin, bit_pins, clock_pins, source_pins, pad_pin, pins}
use Rattle.circuit.specs.Triples.{all_triples, Member, members, LiesIn}
use Rattle.circuit.specs.Circuits.{Circuit}
use Rattle.circuit.specs.Domains.{HasDomain}
use Rattle.circuit.specs.Worlds.{word_bit}
use Rattle.circuit.specs.Tables.{Ignores}
use Rattle.circuit.specs.Triplicated.{EntriesInDomain, OpenPinsIgnored, FedByClock, ClocksAreClocks, IsVoter, ReadsOwnDomain, TablesMask}
use Rattle.links.proofs.Below.{has_in, below_complete}
use Rattle.links.specs.Below.{has, below}
use Rattle.circuit_laws.proofs.Parts.{clock_pin_listed}
use Rattle.circuit_laws.proofs.Sound.{Sound, FeedsFrom, at_pin, to_pin, has_domain}
use Rattle.circuit_examples.proofs.Tests.{and_left, and_right, implies, implied, or_either, all_in, any_in, any_at, and_both, number_is, name_eq, name_is, domain_eq, domain_is, same_bit, bits_equal, all_bits, every, clash, no_false}
use Rattle.circuit_examples.proofs.Feeding.{feeds, feeds_is, is_feeds, fed, fed_is}
use Rattle.circuit_examples.proofs.Voting.{labels, masks_test, masks_is}

-- a test of all parts, and of all pairs of them
abbrev pub each_part : Circuit → (Source → Bool) → Bool
each_part c test = list_all test (sources c.cells)

abbrev pub each_pin : (Source → List Pin) → (Source → Pin → Bool) → Circuit → Bool
each_pin pins_of test c = each_part c (λ s. list_all (test s) (pins_of s))

pub pin_passes : (c : Circuit) (pins_of : Source → List Pin) (test : Source → Pin → Bool) → each_pin pins_of test c ≡ true
    → (s : Source) (p : Pin) → In (sources c.cells) s → In (pins_of s) p → test s p ≡ true
pin_passes c pins_of test e s p i j = all_in (test s) (pins_of s) p (all_in (λ z. list_all (test z) (pins_of z)) (sources c.cells) s e i) j

abbrev each_pad : Circuit → (PadCell → Bool) → Bool
each_pad c test = list_all test (output_pads c.cells)

module _ (c : Circuit) where
  abbrev lies : List ℕ → Domain → Bool
  lies name d = list_any (λ m. name_eq m.name name && domain_eq m.domain d) (members c.cells)

  lies_is : (name : List ℕ) (d : Domain) → lies name d ≡ true → LiesIn c.cells name d
  lies_is name d e =
      let g = any_in (λ (m : Member). name_eq m.name name && domain_eq m.domain d) (members c.cells) e in
      let same_name = name_is g.0.name name (and_left (name_eq g.0.name name) _ g.1.1) in
      let same_domain = domain_is g.0.domain d (and_right (name_eq g.0.name name) _ g.1.1) in
      let member : g.0 ≡ record { name = name; domain = d } = λ i. record { name = same_name i; domain = same_domain i } in
      subst (In (members c.cells)) member g.1.0

  pub record EntriesPass : Type 0 where
    pub first : list_all (λ t. lies t.first D0) (all_triples c.side) ≡ true
    pub second : list_all (λ t. lies t.second D1) (all_triples c.side) ≡ true
    pub third : list_all (λ t. lies t.third D2) (all_triples c.side) ≡ true

  pub entries : EntriesPass → EntriesInDomain c
  entries pass = record {
    first = λ t i. lies_is t.first D0 (all_in (λ (z : Triple). lies z.first D0) (all_triples c.side) t pass.first i);
    second = λ t i. lies_is t.second D1 (all_in (λ (z : Triple). lies z.second D1) (all_triples c.side) t pass.second i);
    third = λ t i. lies_is t.third D2 (all_in (λ (z : Triple). lies z.third D2) (all_triples c.side) t pass.third i);
  }

  -- the table has one output for both bits at a pin
  abbrev ignores : Kind → ℕ → Bool
  ignores (OfTable t) n = all_bits (length t.pins) (λ bits. same_bit (word_bit t.word (set bits n true)) (word_bit t.word (set bits n false)))
  ignores (OfRegister r) n = false
  ignores OfInput n = false
  ignores OfClock n = false

  ignores_is : (k : Kind) (n : ℕ) → ignores k n ≡ true → Ignores k n
  ignores_is (OfTable t) n e = λ bits len. bits_equal _ _ (every (length t.pins) (λ bits. same_bit (word_bit t.word (set bits n true)) (word_bit t.word (set bits n false))) bits e len)
  ignores_is (OfRegister r) n e = absurd (no_false e)
  ignores_is OfInput n e = absurd (no_false e)
  ignores_is OfClock n e = absurd (no_false e)

  abbrev open_pin : Source → Pin → Bool
  open_pin s p = fed c p.wire || ignores s.kind p.ref.pin

  pub record OpenPass : Type 0 where
    pub parts : each_pin bit_pins open_pin c ≡ true
    pub pads : each_pad c (λ p. fed c p.wire) ≡ true

  pub open_pins : OpenPass → OpenPinsIgnored c
  open_pins pass = record {
    parts = λ s p rs ip none. elim (or_either (fed c p.wire) (ignores s.kind p.ref.pin) (pin_passes c bit_pins open_pin pass.parts s p rs.listed ip)) [
      | inl e ↦ absurd (none (fed_is c p.wire e))
      | inr e ↦ ignores_is s.kind p.ref.pin e
    ];
    pads = λ p jp. fed_is c p.wire (all_in (λ (z : PadCell). fed c z.wire) (output_pads c.cells) p pass.pads jp);
  }

  abbrev is_clock : Kind → Bool
  is_clock OfClock = true
  is_clock _ = false

  clock_is : (k : Kind) → is_clock k ≡ true → k ≡ OfClock
  clock_is OfClock e = refl
  clock_is (OfTable t) e = absurd (no_false e)
  clock_is (OfRegister r) e = absurd (no_false e)
  clock_is OfInput e = absurd (no_false e)

  abbrev clock_feeds : ℕ → Bool
  clock_feeds w = list_any (λ a. is_clock a.kind && feeds c a w) (sources c.cells)

module _ (c : Circuit) (ok : Sound c) where
  -- no clock pad feeds a pin that a test finds dry
  pub dry : (p : Pin) → not (clock_feeds c p.wire) ≡ true → FedByClock c p → ⊥
  dry p e h = clash (clock_feeds c p.wire) (any_at (λ (a : Source). is_clock c a.kind && feeds c a p.wire) (sources c.cells) h.0 h.1.0.source
      (and_both (is_clock c h.0.kind) (feeds c h.0 p.wire) (ap (is_clock c) h.1.1) (is_feeds c h.0 p.wire (at_pin c h.0 p h.1.0)))) e

  fed_by_clock : (p : Pin) → In (pins c.cells) p → clock_feeds c p.wire ≡ true → FedByClock c p
  fed_by_clock p jp e =
      let g = any_in (λ (a : Source). is_clock c a.kind && feeds c a p.wire) (sources c.cells) e in
      (g.0, (to_pin c g.0 p jp (feeds_is c ok.formed.outputs.listed g.0 p.wire g.1.0 (and_right (is_clock c g.0.kind) _ g.1.1)), clock_is c g.0.kind (and_left (is_clock c g.0.kind) _ g.1.1)))

  abbrev dry_pin : Source → Pin → Bool
  dry_pin s p = not (clock_feeds c p.wire)

  abbrev is_register : Kind → Bool
  is_register (OfRegister r) = true
  is_register _ = false

  abbrev has_clock : Source → Bool
  has_clock s = implies (is_register s.kind) (list_any (λ p. clock_feeds c p.wire) (clock_pins s))

  pub record ClocksPass : Type 0 where
    pub parts : each_pin bit_pins dry_pin c ≡ true
    pub pads : each_pad c (λ p. not (clock_feeds c p.wire)) ≡ true
    pub clocked : each_part c has_clock ≡ true

  pub clocks : ClocksPass → ClocksAreClocks c
  clocks pass = record {
    parts = λ s p rs ip h. dry p (pin_passes c bit_pins dry_pin pass.parts s p rs.listed ip) h;
    pads = λ p jp h. dry (pad_pin p) (all_in (λ (z : PadCell). not (clock_feeds c z.wire)) (output_pads c.cells) p pass.pads jp) h;
    clocked = λ s r rs ks.
        (let there : list_any (λ (p : Pin). clock_feeds c p.wire) (clock_pins s) ≡ true = implied (is_register s.kind) _ (all_in has_clock (sources c.cells) s pass.clocked rs.listed) (ap is_register ks) in
        let g = any_in (λ (p : Pin). clock_feeds c p.wire) (clock_pins s) there in
        (g.0, (g.1.0, fed_by_clock g.0 (clock_pin_listed c.cells s g.0 rs.listed g.1.0) g.1.1)));
  }

  abbrev voter_number : PartKind → ℕ → Bool
  voter_number (Table m) n = eqb m n
  voter_number _ n = false

  voter_is : (k : PartKind) (n : ℕ) → voter_number k n ≡ true → k ≡ Table n
  voter_is (Table m) n e = ap Table (number_is m n e)
  voter_is (Register m) n e = absurd (no_false e)
  voter_is Pad n e = absurd (no_false e)

  abbrev is_voter : PartRef → Bool
  is_voter part = list_any (λ v. name_eq v.slice part.cell && voter_number part.part v.table) c.side.voters

  voter : (part : PartRef) → is_voter part ≡ true → IsVoter c part
  voter part e =
      let g = any_in (λ (v : Voter). name_eq v.slice part.cell && voter_number part.part v.table) c.side.voters e in
      let name = name_is g.0.slice part.cell (and_left (name_eq g.0.slice part.cell) _ g.1.1) in
      (g.0.table, (voter_is part.part g.0.table (and_right (name_eq g.0.slice part.cell) _ g.1.1), subst (λ z. In c.side.voters (record { slice = z; table = g.0.table })) name g.1.0))

  -- a part of the domain feeds the wire, or any part where it may
  abbrev own_feed : Domain → Bool → ℕ → Bool
  own_feed d free w = implies (fed c w) (list_any (λ a. feeds c a w && (domain_eq a.domain d || free)) (sources c.cells))

  abbrev own_pin : Source → Pin → Bool
  own_pin s p = own_feed s.domain (is_voter s.part) p.wire

  pub fed_complete : (w : ℕ) → Fed c.routing w → fed c w ≡ true
  fed_complete w f = any_at (λ o. has (below c.routing.links o) w) c.routing.outputs f.0 f.1.output (has_in (below c.routing.links f.0) w (below_complete c.routing.links f.1.reach))

  own_is : (d : Domain) (free : Bool) (w : ℕ) → own_feed d free w ≡ true → Fed c.routing w
      → (a : Source) × (FeedsFrom c a w × ((a.domain ≡ d) ⊎ (free ≡ true)))
  own_is d free w e f =
      let g = any_in (λ (a : Source). feeds c a w && (domain_eq a.domain d || free)) (sources c.cells) (implied (fed c w) _ e (fed_complete w f)) in (
        g.0,
        (
          feeds_is c ok.formed.outputs.listed g.0 w g.1.0 (and_left (feeds c g.0 w) _ g.1.1),
          elim (or_either (domain_eq g.0.domain d) free (and_right (feeds c g.0 w) _ g.1.1)) [
            | inl h ↦ inl (domain_is g.0.domain d h)
            | inr h ↦ inr h
          ],
        ),
      )

  pub record OwnPass : Type 0 where
    pub parts : each_pin source_pins own_pin c ≡ true
    pub pads : each_pad c (λ p. own_feed p.domain false p.wire) ≡ true

  pub own : OwnPass → ReadsOwnDomain c
  own pass = record {
    parts = λ s p rs ip f. (let g = own_is s.domain (is_voter s.part) p.wire (pin_passes c source_pins own_pin pass.parts s p rs.listed ip) f in elim g.1.1 [
      | inl h ↦ inl (subst (HasDomain c p.wire) h (has_domain c ok g.0 p.wire g.1.0))
      | inr h ↦ inr (voter s.part h, (g.0.domain, has_domain c ok g.0 p.wire g.1.0))
    ]);
    pads = λ p jp f. (let g = own_is p.domain false p.wire (all_in (λ (z : PadCell). own_feed z.domain false z.wire) (output_pads c.cells) p pass.pads jp) f in elim g.1.1 [
      | inl h ↦ subst (HasDomain c p.wire) h (has_domain c ok g.0 p.wire g.1.0)
      | inr h ↦ absurd (no_false h)
    ]);
  }

  -- a table masks a domain other than its own
  abbrev masks_domain : Domain → Source → Bool
  masks_domain e s = elim s.kind [ OfTable t ↦ domain_eq e s.domain || masks_test c t.word (labels c ok s.part t) e | OfRegister r ↦ true | OfInput ↦ true | OfClock ↦ true ]

  masks_at : (e : Domain) (s : Source) (t : TableCell) → s.kind ≡ OfTable t → e ≢ s.domain → masks_domain e s ≡ true
      → masks_test c t.word (labels c ok s.part t) e ≡ true
  masks_at e s t ks other h = elim (or_either (domain_eq e s.domain) (masks_test c t.word (labels c ok s.part t) e) (subst (λ (k : Kind). elim k [ OfTable t ↦ domain_eq e s.domain || masks_test c t.word (labels c ok s.part t) e | OfRegister r ↦ true | OfInput ↦ true | OfClock ↦ true ] ≡ true) ks h)) [
    | inl g ↦ absurd (other (domain_is e s.domain g))
    | inr g ↦ g
  ]

  pub record MasksPass : Type 0 where
    pub zero : each_part c (masks_domain D0) ≡ true
    pub one : each_part c (masks_domain D1) ≡ true
    pub two : each_part c (masks_domain D2) ≡ true

  domain_passes : MasksPass → (e : Domain) → each_part c (masks_domain e) ≡ true
  domain_passes pass D0 = pass.zero
  domain_passes pass D1 = pass.one
  domain_passes pass D2 = pass.two

  pub masks : MasksPass → TablesMask c
  masks pass = λ s t rs ks. masks_is c ok s t rs.listed ks (λ e other. masks_at e s t ks other (all_in (masks_domain e) (sources c.cells) s (domain_passes pass e) rs.listed))
