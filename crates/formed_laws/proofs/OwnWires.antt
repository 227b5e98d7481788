-- The wires that a kind names pass a test that the kind's rules make.
use Rattle.std.proofs.Common.{◌≡◌, ℕ, Bool, true, false, not, inl, inr, List, [], ◌∷◌, ◌++◌, flat_map, Option, Some, None, refl, subst, option_to_list}
use Rattle.std.specs.List.{list_all}
use Rattle.std.specs.Option.{option_map_or}
use Rattle.std.proofs.lemmas.Bool.{false≢true, and_parts}
use Rattle.words.specs.Members.{In}
use Rattle.records.specs.Profile.{Take, TakeWire, TakeNotWire, TakeZero, TakeOne, TakeOff, TakeIn, TakeOut, Case, Choice, TableKind, RegisterKind, SliceKind, PadKind}
use Rattle.fabric.specs.Device.{taken_name, choice_names}
use Rattle.fabric.specs.WireNames.{BeginsWithOne}
use Rattle.cells.specs.Standing.{slice_wires, pad_wires}
use Rattle.json_forms.specs.KindRules.{take_wire_passes, choice_wires_pass, table_wires_pass, register_wires_pass, slice_wires_pass, pad_wires_pass, is_own_wire}
use Rattle.links.proofs.Members.{in_either, of_flat_map}
use Rattle.fabric_laws.proofs.Members.{all_from}
use Rattle.fabric_laws.proofs.Prefixes.{begins_to}

module _ (test : List ℕ → Bool) where
  take_passes : (t : Take) (name : List ℕ) → take_wire_passes test t ≡ true → In (taken_name t) name → test name ≡ true
  take_passes (TakeWire n) name h i = elim i [ inl e ↦ subst (λ m. test m ≡ true) e h | inr none ↦ absurd none ]
  take_passes (TakeNotWire n) name h i = elim i [ inl e ↦ subst (λ m. test m ≡ true) e h | inr none ↦ absurd none ]
  take_passes TakeZero name h i = absurd i
  take_passes TakeOne name h i = absurd i
  take_passes TakeOff name h i = absurd i
  take_passes TakeIn name h i = absurd i
  take_passes TakeOut name h i = absurd i

  choice_passes : (c : Choice) (name : List ℕ) → choice_wires_pass test c ≡ true → In (choice_names c) name → test name ≡ true
  choice_passes c name h i =
      let r = of_flat_map (λ (k : Case). taken_name k.take) c.cases name i in
      take_passes r.0.take name (all_from (λ k. take_wire_passes test k.take) c.cases h r.0 r.1.0) r.1.1

  table_passes : (t : TableKind) (name : List ℕ) → table_wires_pass test t ≡ true → In (t.out ∷ t.pins) name → test name ≡ true
  table_passes t name h i = let parts = and_parts (list_all test t.pins) (test t.out) h in elim i [
    | inl e ↦ subst (λ m. test m ≡ true) e parts.1
    | inr j ↦ all_from test t.pins parts.0 name j
  ]

  abbrev choices : RegisterKind → List Choice
  choices r = r.input ∷ r.enable ∷ r.reset ∷ r.set ∷ r.clock ∷ []

  register_passes : (r : RegisterKind) (name : List ℕ) → register_wires_pass test r ≡ true
      → In (r.out ∷ (choice_names r.input ++ choice_names r.enable ++ choice_names r.reset ++ choice_names r.clock)) name → test name ≡ true
  register_passes r name h i =
      let parts = and_parts (list_all (choice_wires_pass test) (choices r)) (test r.out) h in
      let of : (c : Choice) → In (choices r) c → In (choice_names c) name → test name ≡ true = λ c j k. choice_passes c name (all_from (choice_wires_pass test) (choices r) parts.0 c j) k in
      elim i [
        | inl e ↦ subst (λ m. test m ≡ true) e parts.1
        | inr j ↦ elim (in_either (choice_names r.input ++ choice_names r.enable ++ choice_names r.reset) (choice_names r.clock) name j) [
          | inl k ↦ elim (in_either (choice_names r.input ++ choice_names r.enable) (choice_names r.reset) name k) [
            | inl l ↦ elim (in_either (choice_names r.input) (choice_names r.enable) name l) [
              | inl m ↦ of r.input (inl refl) m
              | inr m ↦ of r.enable (inr (inl refl)) m
            ]
            | inr l ↦ of r.reset (inr (inr (inl refl))) l
          ]
          | inr k ↦ of r.clock (inr (inr (inr (inr (inl refl))))) k
        ]
      ]

  slice_passes : (k : SliceKind) (name : List ℕ) → slice_wires_pass test k ≡ true → In (slice_wires k) name → test name ≡ true
  slice_passes k name h i =
      let parts = and_parts (list_all (table_wires_pass test) k.tables) (list_all (register_wires_pass test) k.registers) h in
      let of_tables = flat_map (λ (t : TableKind). t.out ∷ t.pins) k.tables in
      let wires_of : RegisterKind → List (List ℕ) = λ r. r.out ∷ (choice_names r.input ++ choice_names r.enable ++ choice_names r.reset ++ choice_names r.clock) in
      elim (in_either of_tables (flat_map wires_of k.registers) name i) [
        | inl j ↦ (let r = of_flat_map (λ (t : TableKind). t.out ∷ t.pins) k.tables name j in table_passes r.0 name (all_from (table_wires_pass test) k.tables parts.0 r.0 r.1.0) r.1.1)
        | inr j ↦ (let r = of_flat_map wires_of k.registers name j in register_passes r.0 name (all_from (register_wires_pass test) k.registers parts.1 r.0 r.1.0) r.1.1)
      ]

  option_passes : (o : Option (List ℕ)) (name : List ℕ) → option_map_or test o true ≡ true → In (option_to_list o) name → test name ≡ true
  option_passes None name h i = absurd i
  option_passes (Some n) name h i = elim i [ inl e ↦ subst (λ m. test m ≡ true) e h | inr none ↦ absurd none ]

  pad_passes : (k : PadKind) (name : List ℕ) → pad_wires_pass test k ≡ true → In (pad_wires k) name → test name ≡ true
  pad_passes k name h i =
      let parts = and_parts (option_map_or test k.in_wire true) (option_map_or test k.out_wire true) h in
      elim (in_either (option_to_list k.in_wire) (option_to_list k.out_wire) name i) [
        | inl j ↦ option_passes k.in_wire name parts.0 j
        | inr j ↦ option_passes k.out_wire name parts.1 j
      ]

not_both : (b : Bool) → not b ≡ true → b ≡ true → ⊥
not_both true h e = false≢true h
not_both false h e = false≢true e

own : (others : List (List ℕ)) (name : List ℕ) → is_own_wire others name ≡ true → BeginsWithOne others name → ⊥
own others name h b = let e = begins_to others name b in not_both _ h e

pub slice_own : (others : List (List ℕ)) (k : SliceKind) (name : List ℕ) → slice_wires_pass (is_own_wire others) k ≡ true → In (slice_wires k) name → BeginsWithOne others name → ⊥
slice_own others k name h i = own others name (slice_passes (is_own_wire others) k name h i)

pub pad_own : (others : List (List ℕ)) (k : PadKind) (name : List ℕ) → pad_wires_pass (is_own_wire others) k ≡ true → In (pad_wires k) name → BeginsWithOne others name → ⊥
pad_own others k name h i = own others name (pad_passes (is_own_wire others) k name h i)
