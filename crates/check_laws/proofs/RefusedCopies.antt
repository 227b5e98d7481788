-- Of copies that differ one thing at most is refused.
use Rattle.std.proofs.Common.{◌≡◌, ℕ, Bool, true, false, List, [], ◌∷◌, ◌++◌, map, ◌⊎◌, inl, inr, refl, sym, ap, subst, ◌∙◌}
use Rattle.std.specs.Prelude.{codes}
use Rattle.std.specs.declared.cmp.Ordering.TheVariants.{Equal}
use Rattle.std.specs.Cmp.Lexicographic.{slice_cmp}
use Rattle.std.specs.FinMap.{slice_cmp-IsAntisymmetric}
use Rattle.words.specs.Members.{In}
use Rattle.records.specs.Side.{Triple}
use Rattle.circuit.specs.Parts.{PartKind, Table, Register, Pad, PartRef}
use Rattle.circuit.specs.Triples.{IsEntry, all_triples, PartTriple, triple_of}
use Rattle.circuit.specs.Circuits.{Circuit}
use Rattle.circuit.specs.Triplicated.{OpenPinsIgnored}
use Rattle.answers.specs.Refusals.{CopiesDiffer}
use Rattle.design_checks.specs.Checks.{IsLeast}
use Rattle.design_checks.specs.CopyChecks.{part_in, FeedsTable, Gives, output, unread, TablesDiffer, digit_cmp, digits_or_dash, Field, InSet, InData, InEnable, InReset, InClock, fields_before, field_text, IsFirstField, DifferIn, in_tables, in_registers, in_outputs, CopiesUnlike, unlike}
use Rattle.links.proofs.Members.{in_left}
use Rattle.circuit_laws.proofs.Sound.{Sound}
use Rattle.check_laws.specs.Accepted.{FeedsAreModelled}
use Rattle.check_laws.proofs.Refused.{RefusesOne, one_least, one_part}
use Rattle.check_laws.proofs.TableRules.{digits_total, gives_is, one_list}

digit_same : (a b : Bool) → digit_cmp a b ≡ Equal → a ≡ b
digit_same false false h = refl
digit_same false true h = absurd (let wrong : ⊥ = cc in wrong)
digit_same true false h = absurd (let wrong : ⊥ = cc in wrong)
digit_same true true h = refl

digits_same : (a b : List Bool) → slice_cmp digit_cmp a b ≡ Equal → a ≡ b
digits_same = slice_cmp-IsAntisymmetric digit_same

-- of two fields one is the other or comes before it
field_order : (f g : Field) → (f ≡ g) ⊎ (In (fields_before g) f ⊎ In (fields_before f) g)
field_order InSet InSet = inl refl
field_order InSet InData = inr (inl (inl refl))
field_order InSet InEnable = inr (inl (inl refl))
field_order InSet InReset = inr (inl (inl refl))
field_order InSet InClock = inr (inl (inl refl))
field_order InData InSet = inr (inr (inl refl))
field_order InData InData = inl refl
field_order InData InEnable = inr (inl (inr (inl refl)))
field_order InData InReset = inr (inl (inr (inl refl)))
field_order InData InClock = inr (inl (inr (inl refl)))
field_order InEnable InSet = inr (inr (inl refl))
field_order InEnable InData = inr (inr (inr (inl refl)))
field_order InEnable InEnable = inl refl
field_order InEnable InReset = inr (inl (inr (inr (inl refl))))
field_order InEnable InClock = inr (inl (inr (inr (inl refl))))
field_order InReset InSet = inr (inr (inl refl))
field_order InReset InData = inr (inr (inr (inl refl)))
field_order InReset InEnable = inr (inr (inr (inr (inl refl))))
field_order InReset InReset = inl refl
field_order InReset InClock = inr (inl (inr (inr (inr (inl refl)))))
field_order InClock InSet = inr (inr (inl refl))
field_order InClock InData = inr (inr (inr (inl refl)))
field_order InClock InEnable = inr (inr (inr (inr (inl refl))))
field_order InClock InReset = inr (inr (inr (inr (inr (inl refl)))))
field_order InClock InClock = inl refl

one_field : (c : Circuit) (t : Triple) (n : ℕ) (f g : Field) → IsFirstField c t n f → IsFirstField c t n g → f ≡ g
one_field c t n f g p q = elim (field_order f g) [
  | inl e ↦ e
  | inr h ↦ elim h [ inl i ↦ absurd (q.earlier f i p.differs) | inr i ↦ absurd (p.earlier g i q.differs) ]
]

-- bits that are mapped alike are alike
mapped_alike : (f g : PartTriple → Bool) (xs : List PartTriple) → map f xs ≡ map g xs → (x : PartTriple) → In xs x → f x ≡ g x
mapped_alike f g [] e x i = absurd i
mapped_alike f g (y ∷ ys) e x i =
    let head : f y ≡ g y = cc in
    let rest : map f ys ≡ map g ys = cc in
    elim i [ inl s ↦ subst (λ z. f z ≡ g z) s head | inr j ↦ mapped_alike f g ys rest x j ]

module _ (c : Circuit) (ok : Sound c) (modelled : FeedsAreModelled c) (ignored : OpenPinsIgnored c) where
  one_gives : (bits : PartTriple → Bool) (part : PartRef) (a b : List ℕ) → Gives c bits part a → Gives c bits part b → a ≡ b
  one_gives bits part _ b (output s t x e rs ks asg open_zero) h = sym (gives_is c ok modelled ignored bits s t x rs ks asg part b e h)
  one_gives bits part _ _ (unread no_read) (output s t x e rs ks asg open_zero) = absurd (no_read s rs.listed e rs.read)
  one_gives bits part _ _ (unread no_read) (unread other) = refl

  module _ (t : Triple) (n : ℕ) where
    -- what a copy gives goes by the bits of the triples that feed the copies
    given_alike : (f g : PartTriple → Bool) → ((feeder : PartTriple) → FeedsTable c t n feeder → f feeder ≡ g feeder) → (cell : List ℕ) → IsEntry t cell → (text : List ℕ)
        → Gives c f (part_in cell (Table n)) text → Gives c g (part_in cell (Table n)) text
    given_alike f g alike cell entry _ (output s v x e rs ks asg open_zero) = output s v x e rs ks (λ p a i cn. asg p a i cn ∙ alike (triple_of c.side a.part) (record {
      cell = cell;
      copy = entry;
      source = s;
      table = v;
      listed = rs.listed;
      is = e;
      is_table = ks;
      pin = p;
      takes = i;
      from = a;
      connects = cn;
      same = refl;
    })) open_zero
    given_alike f g alike cell entry _ (unread no_read) = unread no_read

    one_text : (digits : List Bool) (a b : List ℕ) → TablesDiffer c t n digits a → TablesDiffer c t n digits b → a ≡ b
    one_text digits a b p q = p.text ∙ (λ i. firsts i ++ seconds i ++ thirds i) ∙ sym q.text
      where
        feeders : q.feeders ≡ p.feeders
        feeders = one_list c ok modelled ignored t n q.feeders p.feeders q.are p.are

        alike : (feeder : PartTriple) → FeedsTable c t n feeder → q.bits feeder ≡ p.bits feeder
        alike feeder h = mapped_alike q.bits p.bits p.feeders (ap (map q.bits) (sym feeders) ∙ (q.assigned ∙ sym p.assigned)) feeder ((p.are.members feeder).1 h)

        firsts : p.first ≡ q.first
        firsts = one_gives p.bits (part_in t.first (Table n)) p.first q.first p.gives_first (given_alike q.bits p.bits alike t.first (inl refl) q.first q.gives_first)

        seconds : p.second ≡ q.second
        seconds = one_gives p.bits (part_in t.second (Table n)) p.second q.second p.gives_second (given_alike q.bits p.bits alike t.second (inr (inl refl)) q.second q.gives_second)

        thirds : p.third ≡ q.third
        thirds = one_gives p.bits (part_in t.third (Table n)) p.third q.third p.gives_third (given_alike q.bits p.bits alike t.third (inr (inr (inl refl))) q.third q.gives_third)

  listed_slices : (t : Triple) → In c.side.triples t → In (all_triples c.side) t
  listed_slices t i = in_left (c.side.triples ++ c.side.inputs ++ c.side.outputs) c.side.clocks t (in_left (c.side.triples ++ c.side.inputs) c.side.outputs t (in_left c.side.triples c.side.inputs t i))

  -- triples of slices with one first entry are one
  one_triple : (t u : Triple) (p q : PartKind) → In c.side.triples t → In c.side.triples u → part_in t.first p ≡ part_in u.first q → t ≡ u
  one_triple t u p q i j e = ok.formed.triples.once t u t.first (listed_slices t i) (listed_slices u j) (inl refl) (inl (sym (ap (λ (z : PartRef). z.cell) e)))

  kinds_of : (a b : List ℕ) (p q : PartKind) → part_in a p ≡ part_in b q → p ≡ q
  kinds_of a b p q e = ap (λ (z : PartRef). z.part) e

  table_number : (m n : ℕ) → Table m ≡ Table n → m ≡ n
  table_number m n e = cc

  register_number : (m n : ℕ) → Register m ≡ Register n → m ≡ n
  register_number m n e = cc

  table_register : (m n : ℕ) → Table m ≡ Register n → ⊥
  table_register m n e = (let wrong : ⊥ = cc in wrong)

  table_pad : (m : ℕ) → Table m ≡ Pad → ⊥
  table_pad m e = (let wrong : ⊥ = cc in wrong)

  register_pad : (m : ℕ) → Register m ≡ Pad → ⊥
  register_pad m e = (let wrong : ⊥ = cc in wrong)

  DigitsDiffer : Triple → ℕ → List Bool → Type 0
  DigitsDiffer t n other = (text : List ℕ) × TablesDiffer c t n other text

  one_what : (p q : PartRef) (v w : List ℕ) → DifferIn c p v → DifferIn c q w → p ≡ q → v ≡ w
  unfolding DigitsDiffer
  one_what _ _ _ _ (in_tables t m digits outputs i d l) (in_tables u n others texts j h k) e =
      of_tables (one_triple t u (Table m) (Table n) i j e) (table_number m n (kinds_of t.first u.first (Table m) (Table n) e))
    where
      of_tables : t ≡ u → m ≡ n → digits_or_dash digits ++ codes " " ++ outputs ≡ digits_or_dash others ++ codes " " ++ texts
      of_tables a b =
          let least : IsLeast (slice_cmp digit_cmp) (DigitsDiffer u n) digits = subst (λ (z : Triple). IsLeast (slice_cmp digit_cmp) (DigitsDiffer z n) digits) a (subst (λ z. IsLeast (slice_cmp digit_cmp) (DigitsDiffer t z) digits) b l) in
          let same : digits ≡ others = one_least (slice_cmp digit_cmp) digits_total digits_same (DigitsDiffer u n) digits others least k in
          let moved : TablesDiffer c u n others outputs = subst (λ z. TablesDiffer c u n z outputs) same (subst (λ (z : Triple). TablesDiffer c z n digits outputs) a (subst (λ z. TablesDiffer c t z digits outputs) b d)) in
          let out : outputs ≡ texts = one_text u n others outputs texts moved h in
          λ x. digits_or_dash (same x) ++ codes " " ++ out x
  one_what _ _ _ _ (in_registers t m f i d) (in_registers u n g j h) e =
      of_registers (one_triple t u (Register m) (Register n) i j e) (register_number m n (kinds_of t.first u.first (Register m) (Register n) e))
    where
      of_registers : t ≡ u → m ≡ n → field_text f ≡ field_text g
      of_registers a b = ap field_text (one_field c u n f g (subst (λ (z : Triple). IsFirstField c z n f) a (subst (λ z. IsFirstField c t z f) b d)) h)
  one_what _ _ _ _ (in_outputs t i d) (in_outputs u j h) e = refl
  one_what _ _ _ _ (in_tables t m digits outputs i d l) (in_registers u n g j h) e = absurd (table_register m n (kinds_of t.first u.first (Table m) (Register n) e))
  one_what _ _ _ _ (in_tables t m digits outputs i d l) (in_outputs u j h) e = absurd (table_pad m (kinds_of t.first u.first (Table m) Pad e))
  one_what _ _ _ _ (in_registers t m f i d) (in_tables u n others texts j h k) e = absurd (table_register n m (sym (kinds_of t.first u.first (Register m) (Table n) e)))
  one_what _ _ _ _ (in_registers t m f i d) (in_outputs u j h) e = absurd (register_pad m (kinds_of t.first u.first (Register m) Pad e))
  one_what _ _ _ _ (in_outputs t i d) (in_tables u n others texts j h k) e = absurd (table_pad n (sym (kinds_of t.first u.first Pad (Table n) e)))
  one_what _ _ _ _ (in_outputs t i d) (in_registers u n g j h) e = absurd (register_pad n (sym (kinds_of t.first u.first Pad (Register n) e)))

  pub one_unlike : RefusesOne (CopiesUnlike c)
  one_unlike _ _ (unlike p v l d) (unlike q w m h) =
      let parts : p ≡ q = one_part _ p q l m in
      let whats : v ≡ w = one_what p q v w d h parts in
      λ i. CopiesDiffer (parts i) (whats i)
