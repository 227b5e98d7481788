-- Well-formed cells, as tests.
use Rattle.std.proofs.Common.{◌≡◌, ℕ, Bool, true, false, not, List, length, ◌≤◌, refl, sym, subst, eqb, leb, ◌&&◌, arith}
use Rattle.std.proofs.lemmas.Bool.Decides.{nat_tests}
use Rattle.std.specs.List.{list_all, list_any}
use Rattle.words.specs.Members.{In}
use Rattle.records.specs.Side.{Triple}
use Rattle.circuit.specs.Cells.{TableCell, SliceCell, Role, InputPad, OutputPad, ClockPad, PadCell}
use Rattle.circuit.specs.Parts.{Source, sources}
use Rattle.circuit.specs.Triples.{names_of, IsEntry, all_triples, triple_with, Member, members}
use Rattle.circuit.specs.Circuits.{Circuit}
use Rattle.circuit.specs.WellFormed.{NamesApart, OutputsApart, IsSlice, IsPad, TriplesFit, SizesFit, IsWellFormed}
use Rattle.links.proofs.Below.{in_has}
use Rattle.links.specs.Below.{has}
use Rattle.circuit_examples.proofs.Tests.{and_left, and_right, implies, implied, all_in, any_in, any_at, number_is, is_number, name_eq, name_is, is_name, triple_eq, triple_is, is_triple, distinct, distinct_in, clash, no_false}

module _ (c : Circuit) where
  abbrev slice_names : SliceCell → SliceCell → Bool
  slice_names s u = name_eq s.name u.name

  abbrev pad_names : PadCell → PadCell → Bool
  pad_names p q = name_eq p.name q.name

  abbrev pub names_test : Bool
  names_test = distinct slice_names c.cells.slices && distinct pad_names c.cells.pads && list_all (λ s. list_all (λ p. not (name_eq s.name p.name)) c.cells.pads) c.cells.slices

  pub names_apart : names_test ≡ true → NamesApart c.cells
  names_apart e =
      let two = and_left (distinct slice_names c.cells.slices && distinct pad_names c.cells.pads) _ e in record {
        slices = λ s u i j h. distinct_in slice_names (λ x y g. is_name y.name x.name (sym (name_is x.name y.name g))) c.cells.slices s u (and_left (distinct slice_names c.cells.slices) _ two) i j (is_name s.name u.name h);
        pads = λ p q i j h. distinct_in pad_names (λ x y g. is_name y.name x.name (sym (name_is x.name y.name g))) c.cells.pads p q (and_right (distinct slice_names c.cells.slices) _ two) i j (is_name p.name q.name h);
        kinds = λ s p i j h. clash (name_eq s.name p.name) (is_name s.name p.name h)
            (all_in (λ z. not (name_eq s.name z.name)) c.cells.pads p (all_in (λ z. list_all (λ y. not (name_eq z.name y.name)) c.cells.pads) c.cells.slices s (and_right (distinct slice_names c.cells.slices && distinct pad_names c.cells.pads) _ e) i) j);
      }

  abbrev same_out : Source → Source → Bool
  same_out s u = eqb s.out u.out

  abbrev pub outputs_test : Bool
  outputs_test = list_all (λ s. has c.routing.outputs s.out) (sources c.cells) && distinct same_out (sources c.cells)

  pub outputs_apart : outputs_test ≡ true → OutputsApart c
  outputs_apart e = record {
    listed = λ s i. in_has c.routing.outputs s.out (all_in (λ z. has c.routing.outputs z.out) (sources c.cells) s (and_left (list_all (λ z. has c.routing.outputs z.out) (sources c.cells)) _ e) i);
    alone = λ s u i j h. distinct_in same_out (λ x y g. is_number y.out x.out (sym (number_is x.out y.out g))) (sources c.cells) s u (and_right (list_all (λ z. has c.routing.outputs z.out) (sources c.cells)) _ e) i j (is_number s.out u.out h);
  }

  abbrev is_slice : List ℕ → Bool
  is_slice name = list_any (λ s. name_eq s.name name) c.cells.slices

  slice_is : (name : List ℕ) → is_slice name ≡ true → IsSlice c.cells name
  slice_is name e = (let g = any_in (λ (s : SliceCell). name_eq s.name name) c.cells.slices e in (g.0, (g.1.0, name_is g.0.name name g.1.1)))

  abbrev role_eq : Role → Role → Bool
  role_eq InputPad InputPad = true
  role_eq OutputPad OutputPad = true
  role_eq ClockPad ClockPad = true
  role_eq _ _ = false

  role_is : (x y : Role) → role_eq x y ≡ true → x ≡ y
  role_is InputPad InputPad e = refl
  role_is OutputPad OutputPad e = refl
  role_is ClockPad ClockPad e = refl
  role_is InputPad OutputPad e = absurd (no_false e)
  role_is InputPad ClockPad e = absurd (no_false e)
  role_is OutputPad InputPad e = absurd (no_false e)
  role_is OutputPad ClockPad e = absurd (no_false e)
  role_is ClockPad InputPad e = absurd (no_false e)
  role_is ClockPad OutputPad e = absurd (no_false e)

  abbrev is_pad : Role → List ℕ → Bool
  is_pad role name = list_any (λ p. name_eq p.name name && role_eq p.role role) c.cells.pads

  pad_is : (role : Role) (name : List ℕ) → is_pad role name ≡ true → IsPad c.cells role name
  pad_is role name e =
      let g = any_in (λ (p : PadCell). name_eq p.name name && role_eq p.role role) c.cells.pads e in
      (g.0, (g.1.0, name_is g.0.name name (and_left (name_eq g.0.name name) _ g.1.1), role_is g.0.role role (and_right (name_eq g.0.name name) _ g.1.1)))

  -- the entries of triples pass a test
  abbrev entries : (List ℕ → Bool) → List Triple → Bool
  entries test ts = list_all (λ t. list_all test (names_of t)) ts

  entry_is : (test : List ℕ → Bool) (ts : List Triple) (t : Triple) (name : List ℕ) → entries test ts ≡ true → In ts t
      → IsEntry t name → test name ≡ true
  entry_is test ts t name e i j = all_in test (names_of t) name (all_in (λ (z : Triple). list_all test (names_of z)) ts t e i) j

  abbrev entry : List ℕ → Triple → Bool
  entry name t = list_any (λ n. name_eq n name) (names_of t)

  entry_in : (name : List ℕ) (t : Triple) → entry name t ≡ true → IsEntry t name
  entry_in name t e = (let g = any_in (λ (n : List ℕ). name_eq n name) (names_of t) e in subst (IsEntry t) (name_is g.0 name g.1.1) g.1.0)

  in_entry : (name : List ℕ) (t : Triple) → IsEntry t name → entry name t ≡ true
  in_entry name t i = any_at (λ (n : List ℕ). name_eq n name) (names_of t) name i (is_name name name refl)

  -- two triples with a common name are one
  abbrev apart : List Triple → Bool
  apart ts = list_all (λ t. list_all (λ u. list_all (λ n. implies (entry n u) (triple_eq t u)) (names_of t)) ts) ts

  pub record TriplesPass : Type 0 where
    pub slices : entries is_slice c.side.triples ≡ true
    pub inputs : entries (is_pad InputPad) c.side.inputs ≡ true
    pub outputs : entries (is_pad OutputPad) c.side.outputs ≡ true
    pub clocks : entries (is_pad ClockPad) c.side.clocks ≡ true
    pub paired : list_all (λ m. list_any (entry m.name) (all_triples c.side)) (members c.cells) ≡ true
    pub once : apart (all_triples c.side) ≡ true

  pub triples_fit : TriplesPass → TriplesFit c
  triples_fit pass = record {
    slices = λ t name i j. slice_is name (entry_is is_slice c.side.triples t name pass.slices i j);
    inputs = λ t name i j. pad_is InputPad name (entry_is (is_pad InputPad) c.side.inputs t name pass.inputs i j);
    outputs = λ t name i j. pad_is OutputPad name (entry_is (is_pad OutputPad) c.side.outputs t name pass.outputs i j);
    clocks = λ t name i j. pad_is ClockPad name (entry_is (is_pad ClockPad) c.side.clocks t name pass.clocks i j);
    paired = λ name d i. (let g = any_in (entry name) (all_triples c.side) (all_in (λ (m : Member). list_any (entry m.name) (all_triples c.side)) (members c.cells) (record { name = name; domain = d }) pass.paired i) in
        (g.0, (g.1.0, entry_in name g.0 g.1.1)));
    once = λ t u name i j x y. triple_is t u (implied (entry name u) (triple_eq t u)
        (all_in (λ n. implies (entry n u) (triple_eq t u)) (names_of t) name (all_in (λ (z : Triple). list_all (λ n. implies (entry n z) (triple_eq t z)) (names_of t)) (all_triples c.side) u
        (all_in (λ (v : Triple). list_all (λ (z : Triple). list_all (λ n. implies (entry n z) (triple_eq v z)) (names_of v)) (all_triples c.side)) (all_triples c.side) t pass.once i) j) x) (in_entry name u y));
  }

  abbrev sizes_same : (SliceCell → ℕ) → Bool
  sizes_same size = list_all (λ s. list_all (λ u. implies (triple_eq (triple_with c.side s.name) (triple_with c.side u.name)) (eqb (size s) (size u))) c.cells.slices) c.cells.slices

  size_is : (size : SliceCell → ℕ) → sizes_same size ≡ true → (s u : SliceCell) → In c.cells.slices s → In c.cells.slices u
      → triple_with c.side s.name ≡ triple_with c.side u.name → size s ≡ size u
  size_is size e s u i j h =
      number_is (size s) (size u) (implied (triple_eq (triple_with c.side s.name) (triple_with c.side u.name)) (eqb (size s) (size u))
      (all_in (λ (z : SliceCell). implies (triple_eq (triple_with c.side s.name) (triple_with c.side z.name)) (eqb (size s) (size z))) c.cells.slices u
      (all_in (λ (y : SliceCell). list_all (λ (z : SliceCell). implies (triple_eq (triple_with c.side y.name) (triple_with c.side z.name)) (eqb (size y) (size z))) c.cells.slices) c.cells.slices s e i) j)
      (is_triple (triple_with c.side s.name) (triple_with c.side u.name) h))

  -- each table of a slice passes a test
  abbrev each_table : (TableCell → Bool) → Bool
  each_table test = list_all (λ s. list_all test s.tables) c.cells.slices

  table_is : (test : TableCell → Bool) → each_table test ≡ true → (s : SliceCell) (t : TableCell) → In c.cells.slices s
      → In s.tables t → test t ≡ true
  table_is test e s t i j = all_in test s.tables t (all_in (λ (z : SliceCell). list_all test z.tables) c.cells.slices s e i) j

  at_most : (m n : ℕ) → leb m n ≡ true → m ≤ n
  at_most m n h = grind (arith, nat_tests)

  pub record SizesPass : Type 0 where
    pub tables : sizes_same (λ s. length s.tables) ≡ true
    pub registers : sizes_same (λ s. length s.registers) ≡ true
    pub some_pins : each_table (λ t. leb 1 (length t.pins)) ≡ true
    pub few_pins : each_table (λ t. leb (length t.pins) 4) ≡ true

  pub sizes_fit : SizesPass → SizesFit c
  sizes_fit pass = record {
    tables = size_is (λ s. length s.tables) pass.tables;
    registers = size_is (λ s. length s.registers) pass.registers;
    some_pins = λ s t i j. at_most 1 (length t.pins) (table_is (λ t. leb 1 (length t.pins)) pass.some_pins s t i j);
    few_pins = λ s t i j. at_most (length t.pins) 4 (table_is (λ t. leb (length t.pins) 4) pass.few_pins s t i j);
  }

  pub record FormedPass : Type 0 where
    pub names : names_test ≡ true
    pub outputs : outputs_test ≡ true
    pub triples : TriplesPass
    pub sizes : SizesPass

  pub well_formed : FormedPass → IsWellFormed c
  well_formed pass = record { names = names_apart pass.names; outputs = outputs_apart pass.outputs; triples = triples_fit pass.triples; sizes = sizes_fit pass.sizes }
