-- What keeps a rule passes its check, rule by rule.
use Rattle.std.proofs.Common.{◌≡◌, ℕ, Bool, true, false, List, [], ◌∷◌, inl, inr, Option, None, refl, sym, ap, subst, ◌∙◌, eqb}
use Rattle.std.specs.Prelude.{codes}
use Rattle.std.proofs.lemmas.Bool.{false≢true}
use Rattle.words.specs.Members.{In}
use Rattle.patterns.specs.Bits.{Bits}
use Rattle.records.specs.Config.{Config}
use Rattle.records.specs.Side.{Triple}
use Rattle.links.specs.Links.{IsClean}
use Rattle.fabric.specs.Graph.{Graph}
use Rattle.fabric.specs.Links.{is_chosen, routing_of}
use Rattle.fabric.specs.Agree.{ArcsAgree}
use Rattle.circuit.specs.Cells.{TableCell, RegisterCell}
use Rattle.circuit.specs.Parts.{PartKind, Table, Register, PartRef, OfTable, Source}
use Rattle.circuit.specs.Pins.{PinRef, Pin}
use Rattle.circuit.specs.Triples.{IsEntry, PartTriple, triple_of}
use Rattle.circuit.specs.Circuits.{Circuit}
use Rattle.circuit.specs.Worlds.{table_output}
use Rattle.circuit.specs.Tables.{Assigned}
use Rattle.circuit.specs.Registers.{RegistersAlike}
use Rattle.circuit.specs.Triplicated.{ReadPart, OpenPinsIgnored, ClocksAreClocks, ReadsOwnDomain, TablesMask, CopiesAlike, HasOutputs, NoTableLoop}
use Rattle.answers.specs.Refusals.{Refusal}
use Rattle.design_checks.specs.Checks.{Passes, Computed}
use Rattle.design_checks.specs.RoutingChecks.{ArcsDiffer, differ, AreContested, contested}
use Rattle.design_checks.specs.PinChecks.{SourceUnnamed, unnamed, TablesLoop, loop, of_part, of_pad, IsOpen, PinsOpen, open_pin, TakesClock, ClocksAsData, clock, RegistersUnclocked, unclocked, ReadsForeign, PinsForeign, foreign}
use Rattle.design_checks.specs.MaskChecks.{TablesFail, fails}
use Rattle.design_checks.specs.CopyChecks.{part_in, Gives, output, unread, TablesDiffer, Field, InSet, InData, InEnable, InReset, InClock, AlikeIn, DifferIn, in_tables, in_registers, in_outputs, CopiesUnlike, unlike}
use Rattle.design_checks.specs.DesignChecks.{OutputsMissing, none}
use Rattle.circuit_laws.proofs.Sound.{Sound}
use Rattle.formed_laws.proofs.Placed.{of_slices}
use Rattle.check_laws.specs.Accepted.{FeedsAreModelled}
use Rattle.check_laws.proofs.CopyRules.{triple_is}
use Rattle.check_laws.proofs.TableRules.{digit}

-- a check that refuses nothing
pub no_refusal : (o : Option Refusal) → o ≡ None → Passes (Computed o)
no_refusal o e r h = (let wrong : ⊥ = cc in wrong)

true_false : (b : Bool) → b ≡ true → b ≡ false → ⊥
true_false b e f = (let wrong : ⊥ = cc in wrong)

-- whether a text begins with a code
abbrev begins : ℕ → List ℕ → Bool
begins n [] = false
begins n (x ∷ xs) = eqb x n

digit_begins : (b : Bool) → begins 49 (digit b) ≡ b
digit_begins true = refl
digit_begins false = refl

digit_is : (a b : Bool) → digit a ≡ digit b → a ≡ b
digit_is a b e = sym (digit_begins a) ∙ (ap (begins 49) e ∙ digit_begins b)

digit_no_dash : (b : Bool) → begins 45 (digit b) ≡ false
digit_no_dash true = refl
digit_no_dash false = refl

no_dash : (b : Bool) → codes "-" ≡ digit b → ⊥
no_dash b e = false≢true (sym (digit_no_dash b) ∙ sym (ap (begins 45) e))

-- ---- the text

pub arcs_pass : (g : Graph) (image : Bits) (config : Config) → ArcsAgree g image config → Passes (ArcsDiffer g image config)
arcs_pass g image config agree _ (differ name l) = elim l.has.differs [
  | inl h ↦ h.1.1 (agree.chosen_has_line l.has.arc l.has.listed h.0 h.1.0)
  | inr h ↦ true_false (is_chosen g image l.has.arc) (agree.line_is_chosen l.has.arc h.0) h.1
]

pub clean_passes : (g : Graph) (image : Bits) → IsClean (routing_of g image) → Passes (AreContested g image)
clean_passes g image clean _ (contested w x y wire first second l are e f s) = elim l.has [
  | inl h ↦ h.1.1.1.1 (clean.one_driver w h.0 h.1.0 h.1.1.0 h.1.1.1.0)
  | inr h ↦ clean.outputs_undriven w h.1.0 h.0 h.1.1
]

-- ---- pins

module _ (c : Circuit) where
  pub modelled_pass : (g : Graph) → FeedsAreModelled c → Passes (SourceUnnamed g c)
  modelled_pass g modelled _ (unnamed ref o wire l h e) = (let s = modelled h.pin o h.listed h.feeds in h.unnamed s.0 s.1.0 s.1.1)

  pub loops_pass : NoTableLoop c → Passes (TablesLoop c)
  loops_pass no_loop _ (loop part l) = no_loop l.has.source l.has.next l.has.reads l.has.back

  none_open : OpenPinsIgnored c → (ref : PinRef) → IsOpen c ref → ⊥
  none_open ignored _ (of_part s p rs ip h) = h.1 (ignored.parts s p rs ip h.0)
  none_open ignored _ (of_pad p jp h) = h (ignored.pads p jp)

  pub open_passes : OpenPinsIgnored c → Passes (PinsOpen c)
  open_passes ignored _ (open_pin ref l) = none_open ignored ref l.has

  none_takes_clock : ClocksAreClocks c → (ref : PinRef) → TakesClock c ref → ⊥
  none_takes_clock clocks _ (of_part s p rs ip h) = clocks.parts s p rs ip h
  none_takes_clock clocks _ (of_pad p jp h) = clocks.pads p jp h

  pub clocks_pass : ClocksAreClocks c → Passes (ClocksAsData c)
  clocks_pass clocks _ (clock ref l) = none_takes_clock clocks ref l.has

  pub clocked_passes : ClocksAreClocks c → Passes (RegistersUnclocked c)
  clocked_passes clocks _ (unclocked part l) = (let p = clocks.clocked l.has.source l.has.register l.has.read l.has.is_register in l.has.unclocked p.0 p.1.0 p.1.1)

  none_foreign : ReadsOwnDomain c → (ref : PinRef) → ReadsForeign c ref → ⊥
  none_foreign own _ (of_part s p rs ip h) = elim (own.parts s p rs ip h.0) [ inl d ↦ h.1.0 d | inr v ↦ h.1.1 v ]
  none_foreign own _ (of_pad p jp h) = h.1 (own.pads p jp h.0)

  pub own_passes : ReadsOwnDomain c → Passes (PinsForeign c)
  own_passes own _ (foreign ref l) = none_foreign own ref l.has

  pub masks_pass : TablesMask c → Passes (TablesFail c)
  masks_pass masks _ (fails part n l k) = (let h = k.has in h.differs (masks h.source h.table h.read h.is_table h.other h.bits h.before h.after h.foreign h.assigned h.same))

  pub outputs_pass : HasOutputs c → Passes (OutputsMissing c.side)
  outputs_pass there _ (none e) = subst (λ ts. In ts there.0) e there.1

  -- ---- copies

  module _ (ok : Sound c) (alike : CopiesAlike c) where
    -- parts of one number in cells of one triple are copies
    one_triple : (t : Triple) (part : PartKind) (a b : List ℕ) → In c.side.triples t → IsEntry t a → IsEntry t b → triple_of c.side (part_in a part) ≡ triple_of c.side (part_in b part)
    one_triple t part a b i p q = ap (λ z. let x : PartTriple = record { cells = z; part = part } in x)
        (triple_is c ok t a (of_slices c.side t i) p ∙ sym (triple_is c ok t b (of_slices c.side t i) q))

    same_triple : (t : Triple) (part : PartKind) (s u : Source) (a b : List ℕ) → In c.side.triples t → IsEntry t a → IsEntry t b → s.part ≡ part_in a part → u.part ≡ part_in b part
        → triple_of c.side s.part ≡ triple_of c.side u.part
    same_triple t part s u a b i p q e f = ap (triple_of c.side) e ∙ (one_triple t part a b i p q ∙ sym (ap (triple_of c.side) f))

    alike_in : (field : Field) (s u : PartRef) (q r : RegisterCell) → RegistersAlike c s u q r → AlikeIn c field s u q r
    alike_in InSet s u q r h = h.set
    alike_in InData s u q r h = h.input
    alike_in InEnable s u q r h = h.enable
    alike_in InReset s u q r h = h.reset
    alike_in InClock s u q r h = h.clock

    -- a copy of a table that is read, with a bit that it gives
    record Reading (t : Triple) (n : ℕ) (bits : PartTriple → Bool) (b : Bool) : Type 0 where
      cell : List ℕ
      entry : IsEntry t cell
      source : Source
      table : TableCell
      pins : Pin → Bool
      is : source.part ≡ part_in cell (Table n)
      read : ReadPart c source
      is_table : source.kind ≡ OfTable table
      assigned : Assigned c bits source table pins
      gives : table_output source.part table pins ≡ b

    reading : (t : Triple) (n : ℕ) (bits : PartTriple → Bool) (b : Bool) (cell text : List ℕ) → IsEntry t cell → Gives c bits (part_in cell (Table n)) text → text ≡ digit b → Reading t n bits b
    reading t n bits b cell _ entry (output s v x e rs ks asg open_zero) same =
        record { cell = cell; entry = entry; source = s; table = v; pins = x; is = e; read = rs; is_table = ks; assigned = asg; gives = digit_is (table_output s.part v x) b same }
    reading t n bits b cell _ entry (unread no_read) same = absurd (no_dash b same)

    reading_in : (t : Triple) (n : ℕ) (digits : List Bool) (outputs : List ℕ) (d : TablesDiffer c t n digits outputs) (b : Bool) → In (d.first ∷ d.second ∷ d.third ∷ []) (digit b) → Reading t n d.bits b
    reading_in t n digits outputs d b i = elim i [
      | inl e ↦ reading t n d.bits b t.first d.first (inl refl) d.gives_first e
      | inr j ↦ elim j [
        | inl e ↦ reading t n d.bits b t.second d.second (inr (inl refl)) d.gives_second e
        | inr k ↦ elim k [ inl e ↦ reading t n d.bits b t.third d.third (inr (inr (inl refl))) d.gives_third e | inr l ↦ absurd l ]
      ]
    ]

    no_two : (t : Triple) (n : ℕ) (bits : PartTriple → Bool) → In c.side.triples t → Reading t n bits false → Reading t n bits true → ⊥
    no_two t n bits i p q = true_false true refl (sym q.gives ∙ (sym (alike.tables p.source q.source p.table q.table p.read q.read p.is_table q.is_table
        (same_triple t (Table n) p.source q.source p.cell q.cell i p.entry q.entry p.is q.is) bits p.pins q.pins p.assigned q.assigned) ∙ p.gives))

    none_differ : (part : PartRef) (what : List ℕ) → DifferIn c part what → ⊥
    none_differ _ _ (in_tables t n digits outputs i d l) = no_two t n d.bits i (reading_in t n digits outputs d false d.zero) (reading_in t n digits outputs d true d.one)
    none_differ _ _ (in_registers t n field i first) =
        let d = first.differs in
        let two = d.1.1.1.1.0 in
        d.1.1.1.1.1 (alike_in field d.0.part d.1.0.part d.1.1.0 d.1.1.1.0 (alike.registers d.0 d.1.0 d.1.1.0 d.1.1.1.0 two.first_read two.second_read two.first_kind two.second_kind
        (same_triple t (Register n) d.0 d.1.0 two.first_cell two.second_cell i two.first_copy two.second_copy two.first_is two.second_is)))
    none_differ _ _ (in_outputs t i d) = d.1.1.1.1.1.1 (alike.outputs t d.0 d.1.0 i d.1.1.0 d.1.1.1.0 d.1.1.1.1.0 d.1.1.1.1.1.0)

    pub copies_pass : Passes (CopiesUnlike c)
    copies_pass _ (unlike part what l d) = none_differ part what d
