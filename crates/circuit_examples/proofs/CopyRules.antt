-- The rules on copies and on loops, as tests that a circuit may pass; and all rules together.
use Rattle.std.proofs.Common.{◌≡◌, ℕ, Bool, true, false, not, List, inl, refl, sym, ap, subst, ◌∙◌, ◌&&◌}
use Rattle.std.specs.List.{list_all, list_any}
use Rattle.words.specs.Members.{In}
use Rattle.links.specs.Links.{Reaches, here, onto}
use Rattle.records.specs.Side.{Triple}
use Rattle.circuit.specs.Cells.{Input, InputWire, InputNotWire, InputZero, InputOne, RegisterCell, PadCell}
use Rattle.circuit.specs.Parts.{PartRef, Kind, OfTable, OfRegister, Source, sources, output_pads}
use Rattle.circuit.specs.Pins.{Pin, pin_at, bit_pins, clock_pins_of, input_pin, pad_pin, pins}
use Rattle.circuit.specs.Triples.{names_of, IsEntry, triple_of}
use Rattle.circuit.specs.Circuits.{Circuit, IsReadBy}
use Rattle.circuit.specs.Registers.{FedAlike, TakesAlike, RegistersAlike}
use Rattle.circuit.specs.Triplicated.{CopiesAlike, NoTableLoop, IsTriplicated}
use Rattle.circuit_laws.proofs.Parts.{bit_pin_listed, clock_pin_listed, pad_pin_listed, table_bit, register_bit}
use Rattle.circuit_laws.proofs.Sound.{Sound, at_pin, to_pin}
use Rattle.circuit_laws.proofs.Registers.{input_listed, enable_listed, reset_listed}
use Rattle.circuit_examples.proofs.Tests.{and_left, and_right, and_both, implies, implied, all_in, any_in, any_at, name_eq, is_name, same_bit, bits_equal, group_eq, group_is, is_group, clash, no_false}
use Rattle.circuit_examples.proofs.Feeding.{feeds, feeds_is, is_feeds}
use Rattle.circuit_examples.proofs.Voting.{labels, alike_test, alike_is}
use Rattle.circuit_examples.proofs.Rules.{each_part, each_pin, pin_passes, EntriesPass, entries, OpenPass, open_pins, ClocksPass, clocks, OwnPass, own, MasksPass, masks}

module _ (c : Circuit) (ok : Sound c) where
  -- parts of one triple feed two wires
  abbrev fed_alike : ℕ → ℕ → Bool
  fed_alike v w = list_any (λ a. feeds c a v && list_any (λ b. feeds c b w && group_eq (triple_of c.side a.part) (triple_of c.side b.part)) (sources c.cells)) (sources c.cells)

  fed_alike_is : (p q : Pin) → In (pins c.cells) p → In (pins c.cells) q → fed_alike p.wire q.wire ≡ true → FedAlike c p q
  fed_alike_is p q jp jq e =
      let g = any_in (λ (a : Source). feeds c a p.wire && list_any (λ (b : Source). feeds c b q.wire && group_eq (triple_of c.side a.part) (triple_of c.side b.part)) (sources c.cells)) (sources c.cells) e in
      let h = any_in (λ (b : Source). feeds c b q.wire && group_eq (triple_of c.side g.0.part) (triple_of c.side b.part)) (sources c.cells) (and_right (feeds c g.0 p.wire) _ g.1.1) in record {
        first = g.0;
        second = h.0;
        feeds_first = to_pin c g.0 p jp (feeds_is c ok.formed.outputs.listed g.0 p.wire g.1.0 (and_left (feeds c g.0 p.wire) _ g.1.1));
        feeds_second = to_pin c h.0 q jq (feeds_is c ok.formed.outputs.listed h.0 q.wire h.1.0 (and_left (feeds c h.0 q.wire) _ h.1.1));
        same = group_is _ _ (and_right (feeds c h.0 q.wire) _ h.1.1);
      }

  abbrev takes : Input → Input → Bool
  takes (InputWire a) (InputWire b) = fed_alike a b
  takes (InputNotWire a) (InputNotWire b) = fed_alike a b
  takes InputZero InputZero = true
  takes InputOne InputOne = true
  takes _ _ = false

  -- the pins where an input takes a wire are pins of the cells
  Listed : PartRef → ℕ → Input → Type 0
  Listed part n x = (p : Pin) → In (input_pin part n x) p → In (pins c.cells) p

  takes_is : (s u : PartRef) (n : ℕ) (x y : Input) → Listed s n x → Listed u n y → takes x y ≡ true → TakesAlike c s u n x y
  unfolding Listed
  takes_is s u n (InputWire a) (InputWire b) lx ly e = fed_alike_is (pin_at s n a) (pin_at u n b) (lx (pin_at s n a) (inl refl)) (ly (pin_at u n b) (inl refl)) e
  takes_is s u n (InputNotWire a) (InputNotWire b) lx ly e = fed_alike_is (pin_at s n a) (pin_at u n b) (lx (pin_at s n a) (inl refl)) (ly (pin_at u n b) (inl refl)) e
  takes_is s u n InputZero InputZero lx ly e = tt
  takes_is s u n InputOne InputOne lx ly e = tt
  takes_is s u n _ _ lx ly e = absurd (no_false e)

  abbrev registers : RegisterCell → RegisterCell → Bool
  registers q r = same_bit q.set r.set && (takes q.input r.input && (takes q.enable r.enable && (takes q.reset r.reset && takes q.clock r.clock)))

  module _ (s : Source) (r : RegisterCell) (js : In (sources c.cells) s) (ks : s.kind ≡ OfRegister r) where
    listed_input : Listed s.part 0 r.input
    unfolding Listed
    listed_input = λ p i. bit_pin_listed c.cells s p js (register_bit s r ks p (input_listed s.part r p i))

    listed_enable : Listed s.part 1 r.enable
    unfolding Listed
    listed_enable = λ p i. bit_pin_listed c.cells s p js (register_bit s r ks p (enable_listed s.part r p i))

    listed_reset : Listed s.part 2 r.reset
    unfolding Listed
    listed_reset = λ p i. bit_pin_listed c.cells s p js (register_bit s r ks p (reset_listed s.part r p i))

    listed_clock : Listed s.part 3 r.clock
    unfolding Listed
    listed_clock = λ p i. clock_pin_listed c.cells s p js (subst (λ k. In (clock_pins_of s.part k) p) (sym ks) i)

  registers_are : (s u : Source) (q r : RegisterCell) → In (sources c.cells) s → In (sources c.cells) u → s.kind ≡ OfRegister q
      → u.kind ≡ OfRegister r → registers q r ≡ true → RegistersAlike c s.part u.part q r
  registers_are s u q r js ju ks ku e =
      let one = and_right (same_bit q.set r.set) _ e in
      let two = and_right (takes q.input r.input) _ one in
      let three = and_right (takes q.enable r.enable) _ two in record {
        set = bits_equal q.set r.set (and_left (same_bit q.set r.set) _ e);
        input = takes_is s.part u.part 0 q.input r.input (listed_input s q js ks) (listed_input u r ju ku) (and_left (takes q.input r.input) _ one);
        enable = takes_is s.part u.part 1 q.enable r.enable (listed_enable s q js ks) (listed_enable u r ju ku) (and_left (takes q.enable r.enable) _ two);
        reset = takes_is s.part u.part 2 q.reset r.reset (listed_reset s q js ks) (listed_reset u r ju ku) (and_left (takes q.reset r.reset) _ three);
        clock = takes_is s.part u.part 3 q.clock r.clock (listed_clock s q js ks) (listed_clock u r ju ku) (and_right (takes q.reset r.reset) _ three);
      }

  abbrev copies_by : Source → Source → Kind → Kind → Bool
  copies_by s u (OfTable t) (OfTable v) = alike_test c t.word v.word (labels c ok s.part t) (labels c ok u.part v)
  copies_by s u (OfRegister q) (OfRegister r) = registers q r
  copies_by s u _ _ = true

  abbrev pair : Source → Source → Bool
  pair s u = implies (group_eq (triple_of c.side s.part) (triple_of c.side u.part)) (copies_by s u s.kind u.kind)

  abbrev entry : List ℕ → Triple → Bool
  entry name t = list_any (λ n. name_eq n name) (names_of t)

  abbrev shown_alike : Triple → PadCell → PadCell → Bool
  shown_alike t p q = implies (entry p.name t && entry q.name t) (fed_alike p.wire q.wire)

  pub record CopiesPass : Type 0 where
    pub parts : each_part c (λ s. each_part c (pair s)) ≡ true
    pub pads : list_all (λ t. list_all (λ p. list_all (shown_alike t p) (output_pads c.cells)) (output_pads c.cells)) c.side.outputs ≡ true

  pair_passes : CopiesPass → (s u : Source) (x y : Kind) → In (sources c.cells) s → In (sources c.cells) u → s.kind ≡ x
      → u.kind ≡ y → triple_of c.side s.part ≡ triple_of c.side u.part → copies_by s u x y ≡ true
  pair_passes pass s u x y js ju ks ku same =
      subst (λ k. copies_by s u k y ≡ true) ks (subst (λ k. copies_by s u s.kind k ≡ true) ku (implied (group_eq (triple_of c.side s.part) (triple_of c.side u.part)) _
      (all_in (pair s) (sources c.cells) u (all_in (λ (z : Source). each_part c (pair z)) (sources c.cells) s pass.parts js) ju) (is_group _ _ same)))

  in_entry : (name : List ℕ) (t : Triple) → IsEntry t name → entry name t ≡ true
  in_entry name t i = any_at (λ (n : List ℕ). name_eq n name) (names_of t) name i (is_name name name refl)

  pub copies : CopiesPass → CopiesAlike c
  copies pass = record {
    tables = λ s u t v rs ru ks ku same. alike_is c ok s u t v rs.listed ru.listed ks ku (pair_passes pass s u (OfTable t) (OfTable v) rs.listed ru.listed ks ku same);
    registers = λ s u q r rs ru ks ku same. registers_are s u q r rs.listed ru.listed ks ku (pair_passes pass s u (OfRegister q) (OfRegister r) rs.listed ru.listed ks ku same);
    outputs = λ t p q i jp jq ep eq. fed_alike_is (pad_pin p) (pad_pin q) (pad_pin_listed c.cells p jp) (pad_pin_listed c.cells q jq)
        (implied (entry p.name t && entry q.name t) _
        (all_in (shown_alike t p) (output_pads c.cells) q (all_in (λ (z : PadCell). list_all (shown_alike t z) (output_pads c.cells)) (output_pads c.cells) p
        (all_in (λ (x : Triple). list_all (λ (z : PadCell). list_all (shown_alike x z) (output_pads c.cells)) (output_pads c.cells)) c.side.outputs t pass.pads i) jp) jq)
        (and_both (entry p.name t) (entry q.name t) (in_entry p.name t ep) (in_entry q.name t eq)));
  }

  abbrev is_table : Kind → Bool
  is_table (OfTable t) = true
  is_table _ = false

  -- no table feeds a pin of a table
  abbrev flat_pin : Source → Pin → Bool
  flat_pin s p = implies (is_table s.kind) (list_all (λ a. implies (is_table a.kind) (not (feeds c a p.wire))) (sources c.cells))

  flat : each_pin bit_pins flat_pin c ≡ true → (u s : Source) → IsReadBy c u s → is_table u.kind ≡ true → ⊥
  flat e u s rd table =
      let ip = table_bit s rd.table rd.is_table rd.pin rd.takes in
      let none = implied (is_table s.kind) _ (pin_passes c bit_pins flat_pin e s rd.pin rd.listed ip) (ap is_table rd.is_table) in
      let away = implied (is_table u.kind) _ (all_in (λ (a : Source). implies (is_table a.kind) (not (feeds c a rd.pin.wire))) (sources c.cells) u none rd.connects.source) table in
      clash (feeds c u rd.pin.wire) (is_feeds c u rd.pin.wire (at_pin c u rd.pin rd.connects)) away

  no_loop_at : each_pin bit_pins flat_pin c ≡ true → (s u : Source) → IsReadBy c s u → {v : Source} → Reaches (IsReadBy c) u v → s ≡ v → ⊥
  no_loop_at e s u rd here same = flat e s u rd (ap (λ z. is_table z.kind) same ∙ ap is_table rd.is_table)
  no_loop_at e s u rd (onto q last) same = flat e s u rd (ap (λ z. is_table z.kind) same ∙ ap is_table last.is_table)

  pub no_loop : each_pin bit_pins flat_pin c ≡ true → NoTableLoop c
  no_loop e = λ s u rd back. no_loop_at e s u rd back refl

  pub record RulesPass : Type 0 where
    pub entries : EntriesPass c
    pub open_pins : OpenPass c
    pub clocks : ClocksPass c ok
    pub own : OwnPass c ok
    pub masks : MasksPass c ok
    pub copies : CopiesPass
    pub flat : each_pin bit_pins flat_pin c ≡ true

  pub triplicated : RulesPass → (o : Triple) → In c.side.outputs o → IsTriplicated c
  triplicated pass o jo = record {
    entries = entries c pass.entries;
    open_pins = open_pins c pass.open_pins;
    clocks = clocks c ok pass.clocks;
    own = own c ok pass.own;
    masks = masks c ok pass.masks;
    copies = copies pass.copies;
    has_outputs = (o, jo);
    no_loop = no_loop pass.flat;
  }
