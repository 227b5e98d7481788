-- What a copy of a table gives where the triples that feed it have bits.
use Rattle.std.proofs.Common.{◌≡◌, ℕ, zero, suc, ◌+◌, ◌^◌, ◌<◌, ◌≤◌, Bool, false, List, length, map, get_or, Option, None, Some, option_map, option_and_then, ◌⊎◌, inl, inr, refl, sym, ap, subst, ◌∙◌, arith}
use Rattle.std.specs.Prelude.{slice_get}
use Rattle.std.proofs.Math.Nat.{pow-le-pow_right}
use Rattle.std.proofs.lemmas.Option.{none-some, same_Some, get_or_from_slice_get, slice_get-map}
use Rattle.words.specs.Members.{In}
use Rattle.links.specs.Links.{Fed}
use Rattle.fabric.specs.InOrder.{IsRising}
use Rattle.circuit.specs.Cells.{TableCell}
use Rattle.circuit.specs.Parts.{PartRef, OfTable, Source, sources}
use Rattle.circuit.specs.Pins.{Pin, table_pins}
use Rattle.circuit.specs.Triples.{PartTriple, triple_of}
use Rattle.circuit.specs.Circuits.{Circuit, Connects}
use Rattle.circuit.specs.Worlds.{address, table_output}
use Rattle.circuit.specs.Tables.{Assigned}
use Rattle.circuit_laws.proofs.Sound.{at_pin}
use Rattle.attempts.specs.PinOrder.{part_cmp}
use Rattle.design_checks.specs.CopyChecks.{first_part}
use Rattle.design_checks.specs.MaskChecks.{OpenAreZero}
use Rattle.fabric_laws.proofs.Numbered.{get_in}
use Rattle.pin_feeds.specs.Told.{Tells}
use Rattle.table_masks.specs.Masking.{is_set}
use Rattle.table_masks.specs.Pins.{fed_by}
use Rattle.table_masks.proofs.Bits.{set_address, address_below, same_address}
use Rattle.table_masks.proofs.Row.{few_pins, row_long, row_open}
use Rattle.table_masks.proofs.Tied.{length_numbered, bit_numbered, of_numbered}
use Rattle.table_copies.specs.declared.copies.Pins.{Pins}
use Rattle.table_copies.specs.Firsts.{first_of}
use Rattle.table_copies.specs.Copies.{TellsPlace, ArePins}
use Rattle.table_copies.specs.Outputs.{bit_in, bits_at}
use Rattle.table_copies.proofs.Bits.{past}
use Rattle.table_copies.proofs.Gathered.{IsFirstIn}
use Rattle.table_copies.proofs.Feeding.{row_of, pin_of, pin_in, fed_at, connects_at, first_in}
use Rattle.table_copies.proofs.Tying.{IsReal, same_triples}

some_made : {X Y : Type 0} (g : X → Y) (o : Option X) (y : Y) → option_map g o ≡ Some y → (x : X) × ((o ≡ Some x) × (g x ≡ y))
some_made g None y h = absurd (none-some y h)
some_made g (Some x) y h = (x, (refl, same_Some (g x) y h))

abbrev place_in : Pins → ℕ → Option ℕ
place_in pins zero = pins.first
place_in pins (suc zero) = pins.second
place_in pins (suc (suc zero)) = pins.third
place_in pins (suc (suc (suc zero))) = pins.fourth
place_in pins (suc (suc (suc (suc i)))) = None

bits_are : (digits : List Bool) (pins : Pins) (i : ℕ) → get_or (bits_at digits pins) i false ≡ bit_in digits (place_in pins i)
bits_are digits pins zero = refl
bits_are digits pins (suc zero) = refl
bits_are digits pins (suc (suc zero)) = refl
bits_are digits pins (suc (suc (suc zero))) = refl
bits_are digits pins (suc (suc (suc (suc i)))) = refl

module _ (c : Circuit) (feeds : List (Option ℕ)) (tells : Tells c feeds) (refs : List PartRef) (rising : IsRising part_cmp refs) (feeders : List PartTriple) (firsts : map first_part feeders ≡ refs)
    (real : (f : PartTriple) → In feeders f → IsReal c f) (bits : PartTriple → Bool) (digits : List Bool) (assigned : map bits feeders ≡ digits) where
  -- the digit at the place of a triple is its bit
  digit_at : (a : Source) (j : ℕ) → In (sources c.cells) a → slice_get refs j ≡ Some (first_part (triple_of c.side a.part)) → get_or digits j false ≡ bits (triple_of c.side a.part)
  digit_at a j i at =
      let g = triple_of c.side a.part in
      let f = some_made first_part (slice_get feeders j) (first_part g) (sym (slice_get-map first_part feeders j) ∙ (ap (λ ps. slice_get ps j) firsts ∙ at)) in
      let same : f.0 ≡ g = same_triples c tells.formed f.0 g (real f.0 (get_in feeders j f.0 f.1.0)) (a, (i, refl)) f.1.1 in
      ap (λ ds. get_or ds j false) (sym assigned)
      ∙ (get_or_from_slice_get (map bits feeders) j (bits f.0) false (slice_get-map bits feeders j ∙ ap (option_map bits) f.1.0) ∙ ap bits same)

  module _ (k : ℕ) (s : Source) (t : TableCell) (at : slice_get (sources c.cells) k ≡ Some s) (is : s.kind ≡ OfTable t) (pins : Pins)
      (are : ArePins c.side (sources c.cells) refs (row_of c feeds tells k s t at is) pins)
      (reached : (q : PartRef) → IsFirstIn c.side (sources c.cells) (row_of c feeds tells k s t at is) q → In refs q) where
    abbrev all : List Source
    all = sources c.cells

    abbrev row : List (Option ℕ)
    row = row_of c feeds tells k s t at is

    abbrev pin : ℕ → Pin
    pin i = pin_of c feeds tells k s t at is i

    abbrev bit : ℕ → Bool
    bit i = bit_in digits (place_in pins i)

    none_there : (o : Option Source) → (a : Source) → o ≡ None → o ≡ Some a → ⊥
    none_there o a e h = none-some a (sym e ∙ h)

    told_at : (i : ℕ) → i < 4 → TellsPlace refs (first_of c.side all (get_or row i None)) (place_in pins i)
    told_at zero h = are.of_first
    told_at (suc zero) h = are.of_second
    told_at (suc (suc zero)) h = are.of_third
    told_at (suc (suc (suc zero))) h = are.of_fourth
    told_at (suc (suc (suc (suc i)))) h = absurd (omega arith)

    first_fed : (feed : Option ℕ) (a : Source) → option_and_then (slice_get all) feed ≡ Some a → first_of c.side all feed ≡ Some (first_part (triple_of c.side a.part))
    first_fed None a h = absurd (none-some a h)
    first_fed (Some n) a h = ap (option_map (λ (z : Source). first_part (triple_of c.side z.part))) h

    first_open : (feed : Option ℕ) → option_and_then (slice_get all) feed ≡ None → first_of c.side all feed ≡ None
    first_open None h = refl
    first_open (Some n) h = ap (option_map (λ (z : Source). first_part (triple_of c.side z.part))) h

    fed_by_place : (a : Source) (o : Option ℕ) (feeder : Option PartRef) → In all a → In refs (first_part (triple_of c.side a.part)) → feeder ≡ Some (first_part (triple_of c.side a.part)) → TellsPlace refs feeder o
        → bit_in digits o ≡ bits (triple_of c.side a.part)
    fed_by_place a None feeder i there e none = absurd (none (first_part (triple_of c.side a.part)) e rising there)
    fed_by_place a (Some j) feeder i there e h = digit_at a j i (h.1.1 ∙ (sym h.1.0 ∙ e))

    open_by_place : (o : Option ℕ) (feeder : Option PartRef) → feeder ≡ None → TellsPlace refs feeder o → bit_in digits o ≡ false
    open_by_place None feeder e h = refl
    open_by_place (Some j) feeder e h = absurd (none-some h.0 (sym e ∙ h.1.0))

    -- a pin has the bit of the triple that feeds it
    fed_bit : (i : ℕ) (a : Source) → i < length t.pins → i < 4 → In all a → fed_by all row i ≡ Some a → bit i ≡ bits (triple_of c.side a.part)
    fed_bit i a below small there fed =
        fed_by_place a (place_in pins i) (first_of c.side all (get_or row i None)) there (reached (first_part (triple_of c.side a.part)) (first_in c feeds tells k s t at is i a (get_or row i None) refl fed))
        (first_fed (get_or row i None) a fed) (told_at i small)

    -- one that nothing feeds has 0
    open_bit : (i : ℕ) → i < 4 → fed_by all row i ≡ None → bit i ≡ false
    open_bit i small none = open_by_place (place_in pins i) (first_of c.side all (get_or row i None)) (first_open (get_or row i None) none) (told_at i small)

    few : length t.pins ≤ 4
    few = few_pins c tells.formed s t (get_in all k s at) is

    small_pin : (i : ℕ) → i < length t.pins → i < 4
    small_pin i below = (let most = few in omega arith)

    value_by : (x : Pin → Bool) → Assigned c bits s t x → OpenAreZero c s t x → (i : ℕ) → i < length t.pins → (o : Option Source) → fed_by all row i ≡ o → x (pin i) ≡ bit i
    value_by x given zeroed i below None e =
        zeroed (pin i) (pin_in c feeds tells k s t at is i below) (row_open c feeds tells k s t at is i below e) ∙ sym (open_bit i (small_pin i below) e)
    value_by x given zeroed i below (Some a) e =
        let cn = connects_at c feeds tells k s t at is i a below e in
        given (pin i) a (pin_in c feeds tells k s t at is i below) cn ∙ sym (fed_bit i a below (small_pin i below) cn.source e)

    past_row : (i : ℕ) → length t.pins ≤ i → fed_by all row i ≡ None
    past_row i over = ap (option_and_then (slice_get all)) (sym (past row i None (let long = row_long c feeds tells k s t at is in omega arith)))

    module _ (x : Pin → Bool) (given : Assigned c bits s t x) (zeroed : OpenAreZero c s t x) where
      abbrev values : List Bool
      values = map x (table_pins s.part t)

      many : length values ≡ length t.pins
      many = length_numbered s.part 0 t.pins x

      same_bit : (i : ℕ) → i < 4 → (i < length t.pins) ⊎ (length t.pins ≤ i) → get_or (bits_at digits pins) i false ≡ get_or values i false
      same_bit i small (inl below) = bits_are digits pins i ∙ (sym (value_by x given zeroed i below (fed_by all row i) refl) ∙ sym (bit_numbered s.part 0 t.pins x i below))
      same_bit i small (inr over) = bits_are digits pins i ∙ (open_bit i small (past_row i over) ∙ past values i false (let m = many in omega arith))

      either : (i n : ℕ) → (i < n) ⊎ (n ≤ i)
      either i zero = inr (omega arith)
      either zero (suc n) = inl (omega arith)
      either (suc i) (suc n) = elim (either i n) [ inl h ↦ inl (omega arith) | inr h ↦ inr (omega arith) ]

      small_address : address values < 2 ^ 4
      small_address = (let m = many in let f = few in let below = address_below values in let short : length values ≤ 4 = omega arith in let most : 2 ^ length values ≤ 2 ^ 4 = pow-le-pow_right (let two : 0 < 2 = omega arith in two) short in omega arith)

      same_addresses : address (bits_at digits pins) ≡ address values
      same_addresses = same_address (address values) (bits_at digits pins) small_address (λ i small. same_bit i small (either i (length t.pins)) ∙ sym (set_address values i))

      -- the output of the table is the bit of its word at the address of the pins
      pub output_is : table_output s.part t x ≡ is_set t.word (address (bits_at digits pins))
      output_is = ap (is_set t.word) (sym same_addresses)

    -- ---- an assignment

    abbrev pub chosen : Pin → Bool
    chosen p = get_or (bits_at digits pins) p.ref.pin false

    chosen_at : (i : ℕ) → chosen (pin i) ≡ bit i
    chosen_at i = (let e : 0 + i ≡ i = omega arith in ap (λ n. get_or (bits_at digits pins) n false) e ∙ bits_are digits pins i)

    pub chosen_given : Assigned c bits s t chosen
    chosen_given p a i cn =
        let r = of_numbered s.part 0 t.pins p i in
        let connects : Connects c a (pin r.0) = subst (Connects c a) (sym r.1.1) cn in
        ap chosen (sym r.1.1) ∙ (chosen_at r.0 ∙ fed_bit r.0 a r.1.0 (small_pin r.0 r.1.0) cn.source (fed_at c feeds tells k s t at is r.0 a r.1.0 connects))

    open_by : (i : ℕ) → i < length t.pins → (Fed c.routing (get_or t.pins i 0) → ⊥) → (o : Option Source) → fed_by all row i ≡ o → bit i ≡ false
    open_by i below none None e = open_bit i (small_pin i below) e
    open_by i below none (Some a) e = absurd (let f = at_pin c a (pin i) (connects_at c feeds tells k s t at is i a below e) in none (a.out, f.feeds))

    pub chosen_open : OpenAreZero c s t chosen
    chosen_open p i none =
        let r = of_numbered s.part 0 t.pins p i in
        ap chosen (sym r.1.1) ∙ (chosen_at r.0 ∙ open_by r.0 r.1.0 (subst (λ (z : Pin). Fed c.routing z.wire → ⊥) (sym r.1.1) none) (fed_by all row r.0) refl)
