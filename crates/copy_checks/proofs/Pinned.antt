-- The pins of output pads, by name.
use Rattle.std.proofs.Common.{◌≡◌, ◌≢◌, ℕ, zero, suc, ◌+◌, ◌<◌, ◌≤◌, Bool, true, false, cond, List, [], ◌∷◌, ◌++◌, length, map, get_or, Option, None, Some, ◌⊎◌, inl, inr, refl, sym, ap, subst, ◌∙◌, Bor, bytes_eq, arith}
use Rattle.std.specs.Prelude.{slice_get}
use Rattle.std.specs.List.{flat_map}
use Rattle.std.specs.Ordering.{nat_cmp, is_eq}
use Rattle.std.specs.Cmp.Lexicographic.{slice_cmp}
use Rattle.std.specs.BTreeMap.{get}
use Rattle.std.proofs.lemmas.Cmp.{nat_list_eq_equiv}
use Rattle.std.proofs.lemmas.Map.Text.{is_eq-slice_cmp}
use Rattle.std.proofs.lemmas.Bool.{false≢true}
use Rattle.std.proofs.lemmas.List.{take_all}
use Rattle.std.proofs.lemmas.Option.{get_or_from_slice_get, slice_get_within, slice_get-get_or}
use Rattle.std.proofs.lemmas.Slice.Eq.{bytes_eq-Decides}
use Rattle.words.specs.Members.{In}
use Rattle.links.proofs.Members.{same_number, in_map, of_map}
use Rattle.records.specs.Side.{Triple}
use Rattle.circuit.specs.Cells.{PadCell, Cells}
use Rattle.circuit.specs.Parts.{sources, output_pads}
use Rattle.circuit.specs.Pins.{Pin, pad_pin, pins, source_pins}
use Rattle.circuit.specs.Triples.{IsEntry}
use Rattle.circuit.specs.Circuits.{Circuit}
use Rattle.circuit.specs.WellFormed.{NamesApart}
use Rattle.circuit_laws.proofs.Refs.{pad_same}
use Rattle.circuit_parts.specs.Flat.{first_pin}
use Rattle.copy_rules.specs.Outputs.{IsOutputPin, AreOutputPins}
use Rattle.fabric_laws.proofs.Numbered.{get_in, number_there}
use Rattle.part_triples.specs.Places.{place_in}
use Rattle.copy_checks.specs.Listed.{AreThere}
use Rattle.copy_checks.specs.Pads.{PinMap, IsPinOf, HoldsPins, IsPadPin, HoldsPads}

some_pin : (a b : Pin) → Some a ≡ Some b → a ≡ b
some_pin a b h = cc

split : (i n : ℕ) → i < n + 1 → (i < n) ⊎ (i ≡ n)
split i n h = elim (same_number i n) [ inl e ↦ inr e | inr other ↦ inl (omega arith) ]

-- a name as a map looks it up
abbrev lent : List ℕ → Bor (List ℕ)
lent name = record { ref_ptr = (0, 0); now = name }

text_ties : (a b : List ℕ) → is_eq (slice_cmp nat_cmp a b) ≡ bytes_eq b a
text_ties a b = is_eq-slice_cmp a b ∙ nat_list_eq_equiv.symm a b

-- ---- one pin more

passed : (all : List Pin) (from n : ℕ) (p : Pin) (name : List ℕ) (o : Option ℕ) → slice_get all n ≡ Some p → p.ref.part.cell ≢ name → IsPinOf all from n name o → IsPinOf all from (n + 1) name o
passed all from n p name None at other none = λ k q low below there is. elim (split k n below) [
  | inl l ↦ none k q low l there is
  | inr e ↦ other (ap (λ (z : Pin). z.ref.part.cell) (some_pin p q (sym at ∙ (ap (slice_get all) (sym e) ∙ there))) ∙ is)
]
passed all from n p name (Some k) at other is = is

pub pin_more : (key : Bor (List ℕ)) (p : Pin) (n : ℕ) (old new : PinMap) → key.now ≡ p.ref.part.cell
    → ((q : Bor (List ℕ)) → get (λ a b. slice_cmp nat_cmp a.now b.now) new q ≡ cond (is_eq (slice_cmp nat_cmp key.now q.now)) (Some n) (get (λ a b. slice_cmp nat_cmp a.now b.now) old q))
    → (all : List Pin) (from : ℕ) → slice_get all n ≡ Some p → from ≤ n → HoldsPins all from n old → HoldsPins all from (n + 1) new
pin_more key p n old new is updated all from at low held name = subst (IsPinOf all from (n + 1) name) (sym at_name) (by (bytes_eq name p.ref.part.cell) refl)
  where
    at_name : place_in new name ≡ cond (bytes_eq name p.ref.part.cell) (Some n) (place_in old name)
    at_name = updated (lent name) ∙ ap (λ t. cond t (Some n) (place_in old name)) (ap (λ k. is_eq (slice_cmp nat_cmp k name)) is ∙ text_ties p.ref.part.cell name)

    by : (b : Bool) → bytes_eq name p.ref.part.cell ≡ b → IsPinOf all from (n + 1) name (cond b (Some n) (place_in old name))
    by true e = (low, (p, (at, sym ((bytes_eq-Decides name p.ref.part.cell).0 e))))
    by false e = passed all from n p name (place_in old name) at (λ same. false≢true (sym e ∙ (bytes_eq-Decides name p.ref.part.cell).1 (sym same))) (held name)

-- ---- no pin, and all

pub no_pins : (all : List Pin) (from to : ℕ) (held : PinMap) → ((name : List ℕ) → place_in held name ≡ None) → to ≤ from → HoldsPins all from to held
no_pins all from to held none over name = subst (IsPinOf all from to name) (sym (none name)) (λ k p low below at is. absurd (omega arith))

behind : {X : Type 0} (xs ys : List X) (k : ℕ) (x : X) → length xs ≤ k → slice_get (xs ++ ys) k ≡ Some x → In ys x
behind [] ys k x over at = get_in ys k x at
behind (y ∷ xs) ys zero x over at = absurd (omega arith)
behind (y ∷ xs) ys (suc k) x over at = behind xs ys k x (omega arith) at

after : {X : Type 0} (xs ys : List X) (j : ℕ) → slice_get (xs ++ ys) (length xs + j) ≡ slice_get ys j
after [] ys j = ap (slice_get ys) (let e : 0 + j ≡ j = omega arith in e)
after (x ∷ xs) ys j = ap (slice_get (x ∷ (xs ++ ys))) (let e : suc (length xs) + j ≡ suc (length xs + j) = omega arith in e) ∙ after xs ys j

module _ (cells : Cells) where
  abbrev own : List Pin
  own = flat_map source_pins (sources cells)

  abbrev pads : List Pin
  pads = map pad_pin (output_pads cells)

  abbrev start : ℕ
  start = first_pin cells (length (sources cells))

  start_is : start ≡ length own
  start_is = ap (λ ss. length (flat_map source_pins ss)) (take_all (length (sources cells)) (sources cells) (omega arith))

  pad_of : (k : ℕ) (p : Pin) → start ≤ k → slice_get (pins cells) k ≡ Some p → In pads p
  pad_of k p low at = behind own pads k p (let same = start_is in omega arith) at

  told : (name : List ℕ) (o : Option ℕ) → IsPinOf (pins cells) start (length (pins cells)) name o → IsPadPin cells name o
  told name None none = λ p i e.
      let j = number_there pads (pad_pin p) (in_map pad_pin (output_pads cells) p i) in
      let at : slice_get (pins cells) (length own + j.0) ≡ Some (pad_pin p) = after own pads j.0 ∙ j.1 in
      let same = start_is in
      none (length own + j.0) (pad_pin p) (omega arith) (slice_get_within (pins cells) (length own + j.0) (pad_pin p) at) at e
  told name (Some k) x =
      let p = of_map pad_pin (output_pads cells) x.1.0 (pad_of k x.1.0 x.0 x.1.1.0) in
      (p.0, (p.1.0, (ap (λ (z : Pin). z.ref.part.cell) p.1.1 ∙ x.1.1.1, x.1.1.0 ∙ ap (λ z. Some z) (sym p.1.1))))

  pub pads_told : (n : ℕ) (held : PinMap) → length (pins cells) ≤ n → HoldsPins (pins cells) start n held → HoldsPads cells held
  pads_told n held over all name = told name (place_in held name) (up_to (place_in held name) (all name))
    where
      up_to : (o : Option ℕ) → IsPinOf (pins cells) start n name o → IsPinOf (pins cells) start (length (pins cells)) name o
      up_to None none = λ k p low below. none k p low (omega arith)
      up_to (Some k) x = x

-- ---- the pins of a triple

module _ (c : Circuit) (cells : Cells) (same : c.cells ≡ cells) (names : NamesApart c.cells) (t : Triple) (held : PinMap) (all : HoldsPads cells held) (list : List ℕ)
    (there : AreThere (place_in held t.first) (place_in held t.second) (place_in held t.third) list) where
  own_pads : HoldsPads c.cells held
  own_pads = subst (λ v. HoldsPads v held) (sym same) all

  pin_by : (name : List ℕ) (k : ℕ) → IsEntry t name → place_in held name ≡ Some k → (p : PadCell) × IsOutputPin c t k p
  pin_by name k entry e =
      let x : IsPadPin c.cells name (Some k) = subst (IsPadPin c.cells name) e (own_pads name) in
      (x.0, (x.1.0, subst (IsEntry t) (sym x.1.1.0) entry, x.1.1.1))

  pin_of : (k : ℕ) → In list k → (p : PadCell) × IsOutputPin c t k p
  pin_of k i = elim ((there k).0 i) [
    | inl e ↦ pin_by t.first k (inl refl) e
    | inr j ↦ elim j [ inl e ↦ pin_by t.second k (inr (inl refl)) e | inr e ↦ pin_by t.third k (inr (inr (inl refl))) e ]
  ]

  -- the pin of a pad that is there
  pad_by : (p : PadCell) (name : List ℕ) (o : Option ℕ) → In (output_pads c.cells) p → p.name ≡ name → place_in held name ≡ o → IsPadPin c.cells name o
      → (k : ℕ) × ((place_in held name ≡ Some k) × (slice_get (pins c.cells) k ≡ Some (pad_pin p)))
  pad_by p name None i e is none = absurd (none p i e)
  pad_by p name (Some k) i e is x = (k, (is, x.1.1.1 ∙ ap (λ z. Some (pad_pin z)) (pad_same c.cells names x.0 p x.1.0 i (x.1.1.0 ∙ sym e))))

  pad_at : (p : PadCell) (name : List ℕ) → In (output_pads c.cells) p → p.name ≡ name → (k : ℕ) × ((place_in held name ≡ Some k) × (slice_get (pins c.cells) k ≡ Some (pad_pin p)))
  pad_at p name i e = pad_by p name (place_in held name) i e refl (own_pads name)

  pad_listed : (p : PadCell) → In (output_pads c.cells) p → IsEntry t p.name → (k : ℕ) × (In list k × (slice_get (pins c.cells) k ≡ Some (pad_pin p)))
  pad_listed p i entry = elim entry [
    | inl e ↦ (let x = pad_at p t.first i (sym e) in (x.0, ((there x.0).1 (inl x.1.0), x.1.1)))
    | inr j ↦ elim j [
      | inl e ↦ (let x = pad_at p t.second i (sym e) in (x.0, ((there x.0).1 (inr (inl x.1.0)), x.1.1)))
      | inr l ↦ elim l [
        | inl e ↦ (let x = pad_at p t.third i (sym e) in (x.0, ((there x.0).1 (inr (inr x.1.0)), x.1.1)))
        | inr never ↦ absurd never
      ]
    ]
  ]

  pub pins_listed : AreOutputPins c t list
  pins_listed = record {
    each = λ i below. pin_of (get_or list i 0) (get_in list i (get_or list i 0) (slice_get-get_or list i 0 below));
    all = λ p i entry.
        let x = pad_listed p i entry in
        let j = number_there list x.0 x.1.0 in
        (j.0, (slice_get_within list j.0 x.0 j.1, ap (slice_get (pins c.cells)) (get_or_from_slice_get list j.0 x.0 0 j.1) ∙ x.1.1));
  }
