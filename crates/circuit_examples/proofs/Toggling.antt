-- The toggle toggles: where the three registers hold one bit, all tables give the other one, and the registers take it.
use Rattle.std.proofs.Common.{◌≡◌, ℕ, zero, suc, ◌<◌, Bool, true, false, not, List, [], ◌∷◌, inl, inr, refl, sym, ap, subst, ◌∙◌, arith}
use Rattle.std.specs.Prelude.{◌≢◌, codes, Some, slice_get}
use Rattle.words.specs.Members.{In}
use Rattle.records.specs.Side.{Domain, D0, D1, D2, Triple}
use Rattle.circuit.specs.Cells.{OutputPad, PadCell}
use Rattle.circuit.specs.Parts.{Pad, OfClock, Source, table_source, register_source, sources, output_pads}
use Rattle.circuit.specs.Pins.{Pin, pin_at, bit_pins, pins}
use Rattle.circuit.specs.Triples.{PartTriple, IsEntry}
use Rattle.circuit.specs.Circuits.{IsRead}
use Rattle.circuit.specs.Worlds.{Bit, Clock, World, word_bit, bit_of, CountsAs}
use Rattle.circuit.specs.Faults.{no_fault}
use Rattle.circuit.specs.Runs.{IsCycle, IsStep, IsRun}
use Rattle.circuit_laws.proofs.Sound.{Sound, FeedsFrom, to_pin}
use Rattle.circuit_laws.proofs.Cycle.{steady, out_is}
use Rattle.circuit_laws.proofs.Steps.{shows_always}
use Rattle.circuit_laws.proofs.ChosenRun.{world_at, run_is}
use Rattle.circuit_examples.specs.Toggle.{a, b, c, d as open_pin, ck, f, po, ki, toggle_slice, toggle_table, toggle_register, inverted_majority, toggle, toggle_pads, toggle_registers, turned, fault_of_a0}
use Rattle.circuit_examples.proofs.Tests.{in_at}
use Rattle.circuit_examples.proofs.Feeding.{feeds, feeds_is}
use Rattle.circuit_examples.proofs.ToggleMeets.{toggle_sound, toggle_triplicated}
use Rattle.circuit_examples.proofs.Faulty.{in_copy_0}

abbrev ok : Sound toggle
ok = toggle_sound inverted_majority

-- the parts of a copy
abbrev table_in : List ℕ → Domain → ℕ → Source
table_in name domain n = table_source (toggle_slice name domain n inverted_majority) 0 (toggle_table n inverted_majority)

abbrev register_in : List ℕ → Domain → ℕ → Source
register_in name domain n = register_source (toggle_slice name domain n inverted_majority) 0 (toggle_register n)

abbrev clock_in : List ℕ → Domain → ℕ → Source
clock_in name domain n = record { part = record { cell = name; part = Pad }; domain = domain; kind = OfClock; out = ki n }

abbrev r0 : Source
r0 = register_in (codes "a0") D0 1

abbrev r1 : Source
r1 = register_in (codes "a1") D1 2

abbrev r2 : Source
r2 = register_in (codes "a2") D2 3

-- a copy in column n: its parts are listed, its pins A, B and C are fed by the registers of copies 2, 0 and 1, its register
-- takes its table and is clocked by its clock pad, and its output pad takes its register
record Copy (name clock pad : List ℕ) (domain : Domain) (n : ℕ) : Type 0 where
  table : In (sources toggle.cells) (table_in name domain n)
  register : In (sources toggle.cells) (register_in name domain n)
  shown : In (output_pads toggle.cells) (record { name = pad; domain = domain; role = OutputPad; wire = po n; bits = [] })
  reads_2 : FeedsFrom toggle r2 (a n)
  reads_0 : FeedsFrom toggle r0 (b n)
  reads_1 : FeedsFrom toggle r1 (c n)
  own_table : FeedsFrom toggle (table_in name domain n) (f n)
  own_clock : FeedsFrom toggle (clock_in clock domain n) (ck n)
  own_register : FeedsFrom toggle (register_in name domain n) (po n)

source_at : (k : ℕ) (s : Source) → slice_get (sources toggle.cells) k ≡ Some s → In (sources toggle.cells) s
source_at k s e = in_at (sources toggle.cells) k s e

reach : (s : Source) (w k : ℕ) → slice_get (sources toggle.cells) k ≡ Some s → feeds toggle s w ≡ true → FeedsFrom toggle s w
reach s w k i e = feeds_is toggle ok.formed.outputs.listed s w (source_at k s i) e

abbrev pad_in : List ℕ → Domain → ℕ → PadCell
pad_in name domain n = record { name = name; domain = domain; role = OutputPad; wire = po n; bits = [] }

copy_0 : Copy (codes "a0") (codes "k0") (codes "o0") D0 1
copy_0 = record {
  table = source_at 0 (table_in (codes "a0") D0 1) refl;
  register = source_at 1 r0 refl;
  shown = in_at (output_pads toggle.cells) 0 (pad_in (codes "o0") D0 1) refl;
  reads_2 = reach r2 (a 1) 5 refl refl;
  reads_0 = reach r0 (b 1) 1 refl refl;
  reads_1 = reach r1 (c 1) 3 refl refl;
  own_table = reach (table_in (codes "a0") D0 1) (f 1) 0 refl refl;
  own_clock = reach (clock_in (codes "k0") D0 1) (ck 1) 6 refl refl;
  own_register = reach r0 (po 1) 1 refl refl;
}

copy_1 : Copy (codes "a1") (codes "k1") (codes "o1") D1 2
copy_1 = record {
  table = source_at 2 (table_in (codes "a1") D1 2) refl;
  register = source_at 3 r1 refl;
  shown = in_at (output_pads toggle.cells) 1 (pad_in (codes "o1") D1 2) refl;
  reads_2 = reach r2 (a 2) 5 refl refl;
  reads_0 = reach r0 (b 2) 1 refl refl;
  reads_1 = reach r1 (c 2) 3 refl refl;
  own_table = reach (table_in (codes "a1") D1 2) (f 2) 2 refl refl;
  own_clock = reach (clock_in (codes "k1") D1 2) (ck 2) 7 refl refl;
  own_register = reach r1 (po 2) 3 refl refl;
}

copy_2 : Copy (codes "a2") (codes "k2") (codes "o2") D2 3
copy_2 = record {
  table = source_at 4 (table_in (codes "a2") D2 3) refl;
  register = source_at 5 r2 refl;
  shown = in_at (output_pads toggle.cells) 2 (pad_in (codes "o2") D2 3) refl;
  reads_2 = reach r2 (a 3) 5 refl refl;
  reads_0 = reach r0 (b 3) 1 refl refl;
  reads_1 = reach r1 (c 3) 3 refl refl;
  own_table = reach (table_in (codes "a2") D2 3) (f 3) 4 refl refl;
  own_clock = reach (clock_in (codes "k2") D2 3) (ck 3) 8 refl refl;
  own_register = reach r2 (po 3) 5 refl refl;
}

-- the table of a0 reads all three registers
read_at_a0 : (s : Source) (j k w : ℕ) → slice_get (pins toggle.cells) k ≡ Some (pin_at (table_in (codes "a0") D0 1).part j w)
    → FeedsFrom toggle s w → IsRead toggle s
read_at_a0 s j k w e g = (pin_at (table_in (codes "a0") D0 1).part j w, to_pin toggle s (pin_at (table_in (codes "a0") D0 1).part j w) (in_at (pins toggle.cells) k (pin_at (table_in (codes "a0") D0 1).part j w) e) g)

-- the three registers hold a bit
record AllHold (w : World) (x : Bool) : Type 0 where
  zero_holds : w.part r0.part ≡ x
  one_holds : w.part r1.part ≡ x
  two_holds : w.part r2.part ≡ x

inverted : (x y : Bool) → word_bit inverted_majority (x ∷ x ∷ x ∷ y ∷ []) ≡ not x
inverted true true = refl
inverted true false = refl
inverted false true = refl
inverted false false = refl

module _ (input : Triple → Bool) (v : World) (iv : IsCycle toggle no_fault input v) (x : Bool) (hold : AllHold v x) where
  -- a wire that a register feeds carries the register's bit
  register_wire : (name : List ℕ) (d : Domain) (m w : ℕ) → FeedsFrom toggle (register_in name d m) w
      → v.wire w ≡ Bit (v.part (register_in name d m).part)
  register_wire name d m w g = steady toggle ok input v iv (register_in name d m) w g ∙ out_is toggle ok input v iv (register_in name d m) g.source

  pin_is : (s : Source) (p : Pin) (y : Bool) → In (sources toggle.cells) s → In (bit_pins s) p → v.wire p.wire ≡ Bit y → bit_of v p ≡ y
  pin_is s p y i j e = subst (λ z. CountsAs z (bit_of v p)) e (iv.pins s p i j)

  module _ (name clock pad : List ℕ) (d : Domain) (n : ℕ) (copy : Copy name clock pad d n) where
    -- the table gives the other bit
    table_gives : v.part (table_in name d n).part ≡ not x
    table_gives =
        let s = table_in name d n in
        let pa = pin_at s.part 0 (a n) in
        let pb = pin_at s.part 1 (b n) in
        let pc = pin_at s.part 2 (c n) in
        let pd = pin_at s.part 3 (open_pin n) in
        let ea = pin_is s pa x copy.table (inl refl) (register_wire (codes "a2") D2 3 (a n) copy.reads_2 ∙ ap Bit hold.two_holds) in
        let eb = pin_is s pb x copy.table (inr (inl refl)) (register_wire (codes "a0") D0 1 (b n) copy.reads_0 ∙ ap Bit hold.zero_holds) in
        let ec = pin_is s pc x copy.table (inr (inr (inl refl))) (register_wire (codes "a1") D1 2 (c n) copy.reads_1 ∙ ap Bit hold.one_holds) in
        iv.tables s (toggle_table n inverted_majority) copy.table refl
        ∙ (ap (λ z. word_bit inverted_majority (z ∷ bit_of v pb ∷ bit_of v pc ∷ bit_of v pd ∷ [])) ea
        ∙ (ap (λ z. word_bit inverted_majority (x ∷ z ∷ bit_of v pc ∷ bit_of v pd ∷ [])) eb
        ∙ (ap (λ z. word_bit inverted_majority (x ∷ x ∷ z ∷ bit_of v pd ∷ [])) ec ∙ inverted x (bit_of v pd))))

    -- which the data pin of the register counts as
    data_is : bit_of v (pin_at (register_in name d n).part 0 (f n)) ≡ not x
    data_is = pin_is (register_in name d n) (pin_at (register_in name d n).part 0 (f n)) (not x) copy.register (inl refl)
        (steady toggle ok input v iv (table_in name d n) (f n) copy.own_table ∙ (out_is toggle ok input v iv (table_in name d n) copy.table ∙ ap Bit table_gives))

    clocked : v.wire (ck n) ≡ Clock
    clocked = steady toggle ok input v iv (clock_in clock d n) (ck n) copy.own_clock ∙ out_is toggle ok input v iv (clock_in clock d n) copy.own_clock.source

    -- so the register takes it
    next_is : (next : World) → IsStep toggle no_fault v next → next.part (register_in name d n).part ≡ not x
    next_is next step = step (register_in name d n) (toggle_register n) copy.register refl (λ h. h) clocked ∙ data_is

    pad_shows : v.part (register_in name d n).part ≡ x → v.shown pad ≡ Bit x
    pad_shows h = iv.shows (pad_in pad d n) copy.shown (λ g. g) ∙ (register_wire name d n (po n) copy.own_register ∙ ap Bit h)

  all_next : (next : World) → IsStep toggle no_fault v next → AllHold next (not x)
  all_next next step = record {
    zero_holds = next_is (codes "a0") (codes "k0") (codes "o0") D0 1 copy_0 next step;
    one_holds = next_is (codes "a1") (codes "k1") (codes "o1") D1 2 copy_1 next step;
    two_holds = next_is (codes "a2") (codes "k2") (codes "o2") D2 3 copy_2 next step;
  }

  pads_show : (name : List ℕ) → IsEntry toggle_pads name → v.shown name ≡ Bit x
  pads_show name entry = elim entry [
    | inl e ↦ ap v.shown (sym e) ∙ pad_shows (codes "a0") (codes "k0") (codes "o0") D0 1 copy_0 hold.zero_holds
    | inr i ↦ elim i [
      | inl e ↦ ap v.shown (sym e) ∙ pad_shows (codes "a1") (codes "k1") (codes "o1") D1 2 copy_1 hold.one_holds
      | inr i ↦ elim i [
        | inl e ↦ ap v.shown (sym e) ∙ pad_shows (codes "a2") (codes "k2") (codes "o2") D2 3 copy_2 hold.two_holds
        | inr i ↦ absurd i
      ]
    ]
  ]

module _ (start : PartTriple → Bool) (input : ℕ → Triple → Bool) (n : ℕ) (run : ℕ → World) (is : IsRun toggle no_fault start input n run) where
  -- in cycle t all registers hold the start bit, turned t times
  all_hold : (t : ℕ) → t < n → AllHold (run t) (turned t (start toggle_registers))
  all_hold zero lt = record {
    zero_holds = is.starts lt r0 (toggle_register 1) copy_0.register refl (read_at_a0 r0 1 1 (b 1) refl copy_0.reads_0);
    one_holds = is.starts lt r1 (toggle_register 2) copy_1.register refl (read_at_a0 r1 2 2 (c 1) refl copy_0.reads_1);
    two_holds = is.starts lt r2 (toggle_register 3) copy_2.register refl (read_at_a0 r2 0 0 (a 1) refl copy_0.reads_2);
  }
  all_hold (suc t) lt =
      let before : t < n = omega arith in
      all_next (input t) (run t) (is.cycles t before) (turned t (start toggle_registers)) (all_hold t before) (run (suc t)) (is.steps t lt)

  pub toggles : (t : ℕ) → t < n → (name : List ℕ) → IsEntry toggle_pads name → (run t).shown name ≡ Bit (turned t (start toggle_registers))
  toggles t lt name entry = pads_show (input t) (run t) (is.cycles t lt) (turned t (start toggle_registers)) (all_hold t lt) name entry

-- under the fault of copy 0, as in an undisturbed run from the same start on the same input
pub masks : (start : PartTriple → Bool) (input : ℕ → Triple → Bool) (n : ℕ) (run : ℕ → World) → IsRun toggle fault_of_a0 start input n run
    → (t : ℕ) → t < n → (p : PadCell) → In (output_pads toggle.cells) p → p.domain ≢ D0 → (run t).shown p.name ≡ Bit (turned t (start toggle_registers))
masks start input n run is t lt p jp out =
    let own = world_at toggle ok toggle_triplicated.no_loop no_fault start input run in
    let quiet = run_is toggle ok toggle_triplicated.no_loop no_fault start input run n in
    shows_always toggle ok toggle_triplicated fault_of_a0 D0 (λ e h. sym (in_copy_0 e h)) start input n n own run quiet is t lt lt p jp out ∙ toggles start input n own quiet t lt p.name (entry p jp)
  where
    entry : (p : PadCell) → In (output_pads toggle.cells) p → IsEntry toggle_pads p.name
    entry p i = elim i [
      | inl e ↦ inl (ap (λ z. z.name) e)
      | inr i ↦ elim i [ inl e ↦ inr (inl (ap (λ z. z.name) e)) | inr i ↦ elim i [ inl e ↦ inr (inr (inl (ap (λ z. z.name) e))) | inr i ↦ absurd i ] ]
    ]
