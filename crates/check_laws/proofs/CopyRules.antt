-- What the check of copies leaves: the registers of a triple are alike, and its output pads are fed alike.
use Rattle.std.proofs.Common.{◌≡◌, ◌≢◌, ℕ, Bool, List, ◌++◌, map, flat_map, inl, inr, refl, sym, ap, subst, ◌∙◌}
use Rattle.std.specs.Prelude.{unwrap_or, codes}
use Rattle.words.specs.Members.{In}
use Rattle.records.specs.Side.{Triple}
use Rattle.circuit.specs.Cells.{Input, InputWire, InputNotWire, InputZero, InputOne, RegisterCell, SliceCell, Role, InputPad, OutputPad, ClockPad, PadCell}
use Rattle.circuit.specs.Parts.{PartKind, Table, Register, Pad, PartRef, Kind, OfRegister, Source, sources, output_pads}
use Rattle.circuit.specs.Pins.{Pin, pin_at, pad_pin, pins, input_pin, data_pins, clock_pins_of}
use Rattle.circuit.specs.Triples.{IsEntry, is_entry, all_triples, triple_with, PartTriple, triple_of}
use Rattle.circuit.specs.Circuits.{Circuit}
use Rattle.circuit.specs.WellFormed.{IsPad}
use Rattle.circuit.specs.Registers.{FedAlike, TakesAlike, RegistersAlike}
use Rattle.circuit.specs.Triplicated.{ReadPart}
use Rattle.answers.specs.Refusals.{CopiesDiffer}
use Rattle.attempts.specs.PinOrder.{part_cmp}
use Rattle.design_checks.specs.Checks.{Passes}
use Rattle.design_checks.specs.CopyChecks.{part_in, RegistersDiffer, Field, InSet, InData, InEnable, InReset, InClock, fields_before, field_text, AlikeIn, Gives, output, unread, TablesDiffer, DifferIn, in_tables, in_registers, in_outputs, CopiesUnlike, unlike}
use Rattle.links.proofs.Members.{in_left, in_right, in_either, in_map, in_flat_map}
use Rattle.fabric_laws.proofs.Members.{find_to}
use Rattle.circuit_laws.proofs.Parts.{Fits, of_slice, of_pad_by, of_sources, kind_fits, source_lies, clock_pin_listed, pad_pin_listed, register_bit, bit_pin_listed}
use Rattle.circuit_laws.proofs.Registers.{input_listed, enable_listed, reset_listed}
use Rattle.circuit_laws.proofs.Sound.{Sound}
use Rattle.formed_laws.proofs.Placed.{is_entry_to, is_entry_from}
use Rattle.check_laws.proofs.Least.{no_least}
use Rattle.check_laws.proofs.Orders.{part_total}
use Rattle.check_laws.proofs.Passing.{bits_agree}
use Rattle.check_laws.proofs.Deciding.{alike_decided}

module _ (c : Circuit) (ok : Sound c) where
  -- ---- triples of parts

  abbrev all : List Triple
  all = all_triples c.side

  -- the triple that is found for a name is the one in which it stands
  pub triple_is : (t : Triple) (name : List ℕ) → In all t → IsEntry t name → triple_with c.side name ≡ t
  triple_is t name i e = ap (λ o. unwrap_or o (record { first = name; second = name; third = name })) (find_to (is_entry name) all t i (is_entry_to name t e)
      (λ u j h. ok.formed.triples.once u t name j i (is_entry_from name u h) e))

  -- each part stands in a triple
  pub part_paired : (s : Source) → In (sources c.cells) s → In all (triple_with c.side s.part.cell) × IsEntry (triple_with c.side s.part.cell) s.part.cell
  part_paired s i =
      let t = ok.formed.triples.paired s.part.cell s.domain (source_lies c.cells s i) in
      let e = triple_is t.0 s.part.cell t.1.0 t.1.1 in
      (subst (In all) (sym e) t.1.0, subst (λ (u : Triple). IsEntry u s.part.cell) (sym e) t.1.1)

  -- a part that is no pad is of a slice
  of_no_pad : (s : Source) → In (sources c.cells) s → s.part.part ≢ Pad → (x : SliceCell) × (In c.cells.slices x × (s.part.cell ≡ x.name))
  of_no_pad s i apart = elim (of_sources c.cells s i) [
    | inl x ↦ (x.0, (x.1.0, (of_slice x.0 s x.1.1).cell))
    | inr p ↦ absurd (apart (ap (λ (z : PartRef). z.part) (of_pad_by p.0 p.0.role s p.1.1).part))
  ]

  no_pad : (x : SliceCell) (role : Role) (name : List ℕ) → In c.cells.slices x → name ≡ x.name → IsPad c.cells role name → ⊥
  no_pad x role name i e p = ok.formed.names.kinds x p.0 i p.1.0 (sym e ∙ sym p.1.1)

  -- and its triple is one of slices
  pub slice_triple : (s : Source) → In (sources c.cells) s → s.part.part ≢ Pad → In c.side.triples (triple_with c.side s.part.cell)
  slice_triple s i apart =
      let x = of_no_pad s i apart in
      let t = part_paired s i in
      elim (in_either (c.side.triples ++ c.side.inputs ++ c.side.outputs) c.side.clocks (triple_with c.side s.part.cell) t.0) [
        | inr l ↦ absurd (no_pad x.0 ClockPad s.part.cell x.1.0 x.1.1 (ok.formed.triples.clocks (triple_with c.side s.part.cell) s.part.cell l t.1))
        | inl j ↦ elim (in_either (c.side.triples ++ c.side.inputs) c.side.outputs (triple_with c.side s.part.cell) j) [
          | inr l ↦ absurd (no_pad x.0 OutputPad s.part.cell x.1.0 x.1.1 (ok.formed.triples.outputs (triple_with c.side s.part.cell) s.part.cell l t.1))
          | inl k ↦ elim (in_either c.side.triples c.side.inputs (triple_with c.side s.part.cell) k) [
            | inr l ↦ absurd (no_pad x.0 InputPad s.part.cell x.1.0 x.1.1 (ok.formed.triples.inputs (triple_with c.side s.part.cell) s.part.cell l t.1))
            | inl l ↦ l
          ]
        ]
      ]

  -- ---- the least part whose copies differ

  -- parts in which copies may differ
  abbrev firsts : List PartRef
  firsts = flat_map (λ t. map (λ s. part_in t.first s.part.part) (sources c.cells)) c.side.triples ++ map (λ t. part_in t.first Pad) c.side.outputs

  first_listed : (t : Triple) (s : Source) (part : PartKind) → In c.side.triples t → In (sources c.cells) s → s.part.part ≡ part → In firsts (part_in t.first part)
  first_listed t s part i j e = in_left (flat_map (λ (u : Triple). map (λ (x : Source). part_in u.first x.part.part) (sources c.cells)) c.side.triples) (map (λ (u : Triple). part_in u.first Pad) c.side.outputs) (part_in t.first part)
      (in_flat_map (λ (u : Triple). map (λ (x : Source). part_in u.first x.part.part) (sources c.cells)) c.side.triples t (part_in t.first part) i
      (subst (λ z. In (map (λ (x : Source). part_in t.first x.part.part) (sources c.cells)) (part_in t.first z)) e (in_map (λ (x : Source). part_in t.first x.part.part) (sources c.cells) s j)))

  -- a copy that gives 0 is read
  gives_part : (bits : PartTriple → Bool) (part : PartRef) (text : List ℕ) → Gives c bits part text → text ≢ codes "-" → (s : Source) × (In (sources c.cells) s × (s.part ≡ part))
  gives_part bits part _ (output s t x e rs ks asg zero) apart = (s, (rs.listed, e))
  gives_part bits part _ (unread none) apart = absurd (apart refl)

  zero_read : (x : List ℕ) → x ≡ codes "0" → x ≢ codes "-"
  zero_read x e h = (let bad : codes "0" ≡ codes "-" = sym e ∙ h in let no : ⊥ = cc in no)

  tables_listed : (t : Triple) (number : ℕ) (digits : List Bool) (outputs : List ℕ) → TablesDiffer c t number digits outputs → (s : Source) × (In (sources c.cells) s × (s.part.part ≡ Table number))
  tables_listed t number digits outputs d = elim d.zero [
    | inl e ↦ of (gives_part d.bits (part_in t.first (Table number)) d.first d.gives_first (zero_read d.first e))
    | inr i ↦ elim i [
      | inl e ↦ of (gives_part d.bits (part_in t.second (Table number)) d.second d.gives_second (zero_read d.second e))
      | inr j ↦ elim j [
        | inl e ↦ of (gives_part d.bits (part_in t.third (Table number)) d.third d.gives_third (zero_read d.third e))
        | inr k ↦ absurd k
      ]
    ]
  ]
    where
      of : {cell : List ℕ} → (s : Source) × (In (sources c.cells) s × (s.part ≡ part_in cell (Table number))) → (s : Source) × (In (sources c.cells) s × (s.part.part ≡ Table number))
      of s = (s.0, (s.1.0, ap (λ (z : PartRef). z.part) s.1.1))

  differ_listed : (part : PartRef) → (text : List ℕ) × DifferIn c part text → In firsts part
  differ_listed part d = at part d.0 d.1
    where
      at : (p : PartRef) (text : List ℕ) → DifferIn c p text → In firsts p
      at _ _ (in_tables t number digits outputs i d least) = (let s = tables_listed t number digits outputs d in first_listed t s.0 (Table number) i s.1.0 s.1.1)
      at _ _ (in_registers t number field i first) = (let d = first.differs in let two = d.1.1.1.1.0 in first_listed t d.0 (Register number) i two.first_read.listed (ap (λ (z : PartRef). z.part) two.first_is))
      at _ _ (in_outputs t i d) = in_right (flat_map (λ (u : Triple). map (λ (x : Source). part_in u.first x.part.part) (sources c.cells)) c.side.triples) (map (λ (u : Triple). part_in u.first Pad) c.side.outputs) (part_in t.first Pad)
          (in_map (λ (u : Triple). part_in u.first Pad) c.side.outputs t i)

  module _ (pass : Passes (CopiesUnlike c)) where
    pub none_differ : (part : PartRef) (text : List ℕ) → DifferIn c part text → ⊥
    none_differ part text d = no_least part_cmp part_total (λ p. (what : List ℕ) × DifferIn c p what) firsts differ_listed (λ p l. pass (CopiesDiffer p l.has.0) (unlike p l.has.0 l l.has.1)) part (text, d)

    -- ---- outputs

    pub outputs_alike : (t : Triple) (p q : PadCell) → In c.side.outputs t → In (output_pads c.cells) p → In (output_pads c.cells) q → IsEntry t p.name → IsEntry t q.name → FedAlike c (pad_pin p) (pad_pin q)
    outputs_alike t p q i ip iq ep eq = elim (alike_decided c ok (pad_pin p) (pad_pin q) (pad_pin_listed c.cells p ip) (pad_pin_listed c.cells q iq)) [
      | inl h ↦ h
      | inr n ↦ absurd (none_differ (part_in t.first Pad) (codes "out") (in_outputs t i (p, (q, (ip, (iq, (ep, (eq, n))))))))
    ]

    -- ---- registers

    module _ (t : Triple) (n : ℕ) (i : In c.side.triples t) where
      abbrev DifferAt : Field → Type 0
      DifferAt field = RegistersDiffer c t n (AlikeIn c field)

      first_field : (field : Field) → ((other : Field) → In (fields_before field) other → DifferAt other → ⊥) → DifferAt field → ⊥
      first_field field earlier d = none_differ (part_in t.first (Register n)) (field_text field) (in_registers t n field i (record { differs = d; earlier = earlier }))

      not_set : DifferAt InSet → ⊥
      not_set = first_field InSet (λ other j. absurd j)

      not_data : DifferAt InData → ⊥
      not_data = first_field InData (λ other j. elim j [ inl e ↦ subst (λ f. DifferAt f → ⊥) e not_set | inr k ↦ absurd k ])

      not_enable : DifferAt InEnable → ⊥
      not_enable = first_field InEnable (λ other j. elim j [
        | inl e ↦ subst (λ f. DifferAt f → ⊥) e not_set
        | inr k ↦ elim k [ inl e ↦ subst (λ f. DifferAt f → ⊥) e not_data | inr l ↦ absurd l ]
      ])

      not_reset : DifferAt InReset → ⊥
      not_reset = first_field InReset (λ other j. elim j [
        | inl e ↦ subst (λ f. DifferAt f → ⊥) e not_set
        | inr k ↦ elim k [
          | inl e ↦ subst (λ f. DifferAt f → ⊥) e not_data
          | inr l ↦ elim l [ inl e ↦ subst (λ f. DifferAt f → ⊥) e not_enable | inr m ↦ absurd m ]
        ]
      ])

      not_clock : DifferAt InClock → ⊥
      not_clock = first_field InClock (λ other j. elim j [
        | inl e ↦ subst (λ f. DifferAt f → ⊥) e not_set
        | inr k ↦ elim k [
          | inl e ↦ subst (λ f. DifferAt f → ⊥) e not_data
          | inr l ↦ elim l [
            | inl e ↦ subst (λ f. DifferAt f → ⊥) e not_enable
            | inr m ↦ elim m [ inl e ↦ subst (λ f. DifferAt f → ⊥) e not_reset | inr o ↦ absurd o ]
          ]
        ]
      ])

  -- two registers take alike at a pin where they can't fail to
  takes : (s u : PartRef) (n : ℕ) (a b : Input) → ((p : Pin) → In (input_pin s n a) p → In (pins c.cells) p) → ((p : Pin) → In (input_pin u n b) p → In (pins c.cells) p)
      → ((TakesAlike c s u n a b → ⊥) → ⊥) → TakesAlike c s u n a b
  takes s u n (InputWire a) (InputWire b) sub tub h = elim (alike_decided c ok (pin_at s n a) (pin_at u n b) (sub (pin_at s n a) (inl refl)) (tub (pin_at u n b) (inl refl))) [ inl k ↦ k | inr m ↦ absurd (h m) ]
  takes s u n (InputNotWire a) (InputNotWire b) sub tub h = elim (alike_decided c ok (pin_at s n a) (pin_at u n b) (sub (pin_at s n a) (inl refl)) (tub (pin_at u n b) (inl refl))) [ inl k ↦ k | inr m ↦ absurd (h m) ]
  takes s u n InputZero InputZero sub tub h = tt
  takes s u n InputOne InputOne sub tub h = tt
  takes s u n (InputWire a) (InputNotWire b) sub tub h = h (λ k. k)
  takes s u n (InputWire a) InputZero sub tub h = h (λ k. k)
  takes s u n (InputWire a) InputOne sub tub h = h (λ k. k)
  takes s u n (InputNotWire a) (InputWire b) sub tub h = h (λ k. k)
  takes s u n (InputNotWire a) InputZero sub tub h = h (λ k. k)
  takes s u n (InputNotWire a) InputOne sub tub h = h (λ k. k)
  takes s u n InputZero (InputWire b) sub tub h = h (λ k. k)
  takes s u n InputZero (InputNotWire b) sub tub h = h (λ k. k)
  takes s u n InputZero InputOne sub tub h = h (λ k. k)
  takes s u n InputOne (InputWire b) sub tub h = h (λ k. k)
  takes s u n InputOne (InputNotWire b) sub tub h = h (λ k. k)
  takes s u n InputOne InputZero sub tub h = h (λ k. k)

  -- a register's part is named as one
  register_name : (p : PartKind) (k : Kind) (r : RegisterCell) → k ≡ OfRegister r → Fits p k → (n : ℕ) × (p ≡ Register n)
  register_name (Register n) k r e f = (n, refl)
  register_name (Table n) k r e f = absurd (subst (Fits (Table n)) e f)
  register_name Pad k r e f = absurd (subst (Fits Pad) e f)

  register_no_pad : (p : PartKind) (n : ℕ) → p ≡ Register n → p ≢ Pad
  register_no_pad p n e h = (let bad : Register n ≡ Pad = sym e ∙ h in let no : ⊥ = cc in no)

  clock_listed : (s : Source) (r : RegisterCell) → In (sources c.cells) s → s.kind ≡ OfRegister r → (p : Pin) → In (input_pin s.part 3 r.clock) p → In (pins c.cells) p
  clock_listed s r i ks p j = clock_pin_listed c.cells s p i (subst (λ k. In (clock_pins_of s.part k) p) (sym ks) j)

  module _ (pass : Passes (CopiesUnlike c)) (s u : Source) (q r : RegisterCell) (rs : ReadPart c s) (ru : ReadPart c u) (ks : s.kind ≡ OfRegister q) (ku : u.kind ≡ OfRegister r)
      (same : triple_of c.side s.part ≡ triple_of c.side u.part) where
    abbrev copies : Triple
    copies = triple_with c.side s.part.cell

    named : (n : ℕ) × (s.part.part ≡ Register n)
    named = register_name s.part.part s.kind q ks (kind_fits c.cells s rs.listed)

    data_listed : (x : Source) (z : RegisterCell) → In (sources c.cells) x → x.kind ≡ OfRegister z → (p : Pin) → In (data_pins x.part z) p → In (pins c.cells) p
    data_listed x z i kx p j = bit_pin_listed c.cells x p i (register_bit x z kx p j)

    module _ (n : ℕ) (is : s.part.part ≡ Register n) where
      listed : In c.side.triples copies
      listed = slice_triple s rs.listed (register_no_pad s.part.part n is)

      cells : copies ≡ triple_with c.side u.part.cell
      cells = ap (λ (z : PartTriple). z.cells) same

      parts : u.part.part ≡ Register n
      parts = ap (λ (z : PartTriple). z.part) (sym same) ∙ is

      differ : (field : Field) → (AlikeIn c field s.part u.part q r → ⊥) → RegistersDiffer c copies n (AlikeIn c field)
      differ field d = (
        s,
        (
          u,
          (
            q,
            (
              r,
              (
                record {
                  first_cell = s.part.cell;
                  second_cell = u.part.cell;
                  first_copy = (part_paired s rs.listed).1;
                  second_copy = subst (λ (z : Triple). IsEntry z u.part.cell) (sym cells) (part_paired u ru.listed).1;
                  first_is = λ i. record { cell = s.part.cell; part = is i };
                  second_is = λ i. record { cell = u.part.cell; part = parts i };
                  first_read = rs;
                  second_read = ru;
                  first_kind = ks;
                  second_kind = ku;
                },
                d,
              ),
            ),
          ),
        ),
      )

      alike_at : RegistersAlike c s.part u.part q r
      alike_at = record {
        set = bits_agree q.set r.set (λ d. not_set pass copies n listed (differ InSet d));
        input = takes s.part u.part 0 q.input r.input (λ p j. data_listed s q rs.listed ks p (input_listed s.part q p j)) (λ p j. data_listed u r ru.listed ku p (input_listed u.part r p j)) (λ d. not_data pass copies n listed (differ InData d));
        enable = takes s.part u.part 1 q.enable r.enable (λ p j. data_listed s q rs.listed ks p (enable_listed s.part q p j)) (λ p j. data_listed u r ru.listed ku p (enable_listed u.part r p j)) (λ d. not_enable pass copies n listed (differ InEnable d));
        reset = takes s.part u.part 2 q.reset r.reset (λ p j. data_listed s q rs.listed ks p (reset_listed s.part q p j)) (λ p j. data_listed u r ru.listed ku p (reset_listed u.part r p j)) (λ d. not_reset pass copies n listed (differ InReset d));
        clock = takes s.part u.part 3 q.clock r.clock (clock_listed s q rs.listed ks) (clock_listed u r ru.listed ku) (λ d. not_clock pass copies n listed (differ InClock d));
      }

    pub registers_alike : RegistersAlike c s.part u.part q r
    registers_alike = alike_at named.0 named.1
