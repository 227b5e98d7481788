-- Registers that differ in a field.
use Rattle.std.proofs.Common.{◌≡◌, ◌↔◌, ℕ, ◌<◌, Bool, true, false, not, List, ◌++◌, length, get_or, Option, None, Some, inl, inr, refl, sym, ap, subst, ◌∙◌, Bor}
use Rattle.std.specs.Prelude.{IsTrue, MatchOption, slice_get}
use Rattle.std.proofs.lemmas.Bool.{false≢true}
use Rattle.std.proofs.lemmas.Option.{slice_get_within}
use Rattle.words.specs.Members.{In}
use Rattle.records.specs.Side.{Triple}
use Rattle.links.proofs.Members.{in_left, in_right}
use Rattle.circuit.specs.Cells.{Cells, Input, RegisterCell}
use Rattle.circuit.specs.Parts.{Kind, OfRegister, Register, Source, sources}
use Rattle.circuit.specs.Pins.{Pin, input_pin, data_pins, bit_pins_of, clock_pins_of, source_pins}
use Rattle.circuit.specs.Triples.{IsEntry}
use Rattle.circuit.specs.Circuits.{Circuit}
use Rattle.circuit.specs.Triplicated.{ReadPart}
use Rattle.design_checks.specs.CopyChecks as checks
use Rattle.design_checks.specs.CopyChecks.{part_in, AlikeIn, RegistersDiffer, TwoRegisters, IsFirstField, fields_before}
use Rattle.fabric_laws.proofs.Numbered.{number_there}
use Rattle.copy_rules.specs.Inputs.{HasInput, TakenAlike}
use Rattle.copy_rules.specs.Copies.{IsRegisterAt, NoRegisterAt, AlikeTold, DiffersAt, SomeDiffer, IsReadCopy, AreReadCopies}

some_source : (a b : Source) → Some a ≡ Some b → a ≡ b
some_source a b h = cc

one_register : (k : Kind) (q r : RegisterCell) → k ≡ OfRegister q → k ≡ OfRegister r → q ≡ r
one_register k q r h g = (let both : OfRegister q ≡ OfRegister r = sym h ∙ g in let same : q ≡ r = cc in same)

none_source : (s : Source) → None ≡ Some s → ⊥
none_source s h = (let no : ⊥ = cc in no)

-- ---- the pins of a register

module _ (s : Source) (r : RegisterCell) (is : s.kind ≡ OfRegister r) where
  own : (p : Pin) → In (data_pins s.part r ++ input_pin s.part 3 r.clock) p → In (source_pins s) p
  own p i = subst (λ k. In (bit_pins_of s.part k ++ clock_pins_of s.part k) p) (sym is) i

  pub has_data : HasInput s 0 r.input
  has_data p i = own p (in_left (data_pins s.part r) (input_pin s.part 3 r.clock) p
      (in_left (input_pin s.part 0 r.input ++ input_pin s.part 1 r.enable) (input_pin s.part 2 r.reset) p (in_left (input_pin s.part 0 r.input) (input_pin s.part 1 r.enable) p i)))

  pub has_enable : HasInput s 1 r.enable
  has_enable p i = own p (in_left (data_pins s.part r) (input_pin s.part 3 r.clock) p
      (in_left (input_pin s.part 0 r.input ++ input_pin s.part 1 r.enable) (input_pin s.part 2 r.reset) p (in_right (input_pin s.part 0 r.input) (input_pin s.part 1 r.enable) p i)))

  pub has_reset : HasInput s 2 r.reset
  has_reset p i = own p (in_left (data_pins s.part r) (input_pin s.part 3 r.clock) p
      (in_right (input_pin s.part 0 r.input ++ input_pin s.part 1 r.enable) (input_pin s.part 2 r.reset) p i))

  pub has_clock : HasInput s 3 r.clock
  has_clock p i = own p (in_right (data_pins s.part r) (input_pin s.part 3 r.clock) p i)

module _ (c : Circuit) (j k : ℕ) (q r : RegisterCell) (result : Bool) (x y : Input) (f : checks.Field) where
  pub alike_enable : x ≡ q.enable → y ≡ r.enable → f ≡ checks.InEnable → TakenAlike c j k 1 x y result → AlikeTold c j k q r f result
  alike_enable x_is y_is f_is told s u at_s at_u is_s is_u =
      let taken : TakenAlike c j k 1 q.enable r.enable result = subst (λ z. TakenAlike c j k 1 q.enable z result) y_is (subst (λ z. TakenAlike c j k 1 z y result) x_is told) in
      subst (λ g. IsTrue result ↔ AlikeIn c g s.part u.part q r) (sym f_is) (taken s u at_s at_u (has_enable s q is_s) (has_enable u r is_u))

  pub alike_reset : x ≡ q.reset → y ≡ r.reset → f ≡ checks.InReset → TakenAlike c j k 2 x y result → AlikeTold c j k q r f result
  alike_reset x_is y_is f_is told s u at_s at_u is_s is_u =
      let taken : TakenAlike c j k 2 q.reset r.reset result = subst (λ z. TakenAlike c j k 2 q.reset z result) y_is (subst (λ z. TakenAlike c j k 2 z y result) x_is told) in
      subst (λ g. IsTrue result ↔ AlikeIn c g s.part u.part q r) (sym f_is) (taken s u at_s at_u (has_reset s q is_s) (has_reset u r is_u))

  pub alike_clock : x ≡ q.clock → y ≡ r.clock → f ≡ checks.InClock → TakenAlike c j k 3 x y result → AlikeTold c j k q r f result
  alike_clock x_is y_is f_is told s u at_s at_u is_s is_u =
      let taken : TakenAlike c j k 3 q.clock r.clock result = subst (λ z. TakenAlike c j k 3 q.clock z result) y_is (subst (λ z. TakenAlike c j k 3 z y result) x_is told) in
      subst (λ g. IsTrue result ↔ AlikeIn c g s.part u.part q r) (sym f_is) (taken s u at_s at_u (has_clock s q is_s) (has_clock u r is_u))

-- ---- the register with a number

pub no_source : (all : List Source) (k : ℕ) → None ≡ slice_get all k → NoRegisterAt all k
no_source all k none r h = none_source h.0 (none ∙ h.1.0)

no_register : (all : List Source) (k : ℕ) (s : Source) → Some s ≡ slice_get all k → ((r : RegisterCell) → s.kind ≡ OfRegister r → ⊥) → NoRegisterAt all k
no_register all k s at none r h = none r (ap (λ (z : Source). z.kind) (some_source s h.0 (at ∙ h.1.0)) ∙ h.1.1)

-- the register that a part is
pub register_told : (all : List Source) (k : ℕ) (s : Source) → Some s ≡ slice_get all k → (o : Option (Bor RegisterCell)) → MatchOption o ((r : RegisterCell) → s.kind ≡ OfRegister r → ⊥) (λ r. s.kind ≡ OfRegister r.now)
    → MatchOption o (NoRegisterAt all k) (λ r. IsRegisterAt all k r.now)
register_told all k s at None none = no_register all k s at none
register_told all k s at (Some r) is = (s, (sym at, is))

pub below : (all : List Source) (k : ℕ) (r : RegisterCell) → IsRegisterAt all k r → k < length all
below all k r h = slice_get_within all k h.0 h.1.0

-- ---- two registers

module _ (cells : Cells) (c : Circuit) (same : c.cells ≡ cells) (f : checks.Field) (j k : ℕ) where
  pub not_first : NoRegisterAt (sources cells) j → IsTrue false ↔ DiffersAt c f j k
  not_first none = ((λ h. absurd (false≢true h)), (λ d. absurd (none d.q (d.first, (subst (λ v. slice_get (sources v) j ≡ Some d.first) same d.first_at, d.first_kind)))))

  pub not_second : NoRegisterAt (sources cells) k → IsTrue false ↔ DiffersAt c f j k
  not_second none = ((λ h. absurd (false≢true h)), (λ d. absurd (none d.r (d.second, (subst (λ v. slice_get (sources v) k ≡ Some d.second) same d.second_at, d.second_kind)))))

  module _ (q r : RegisterCell) (at_q : IsRegisterAt (sources cells) j q) (at_r : IsRegisterAt (sources cells) k r) where
    s_at : slice_get (sources c.cells) j ≡ Some at_q.0
    s_at = subst (λ v. slice_get (sources v) j ≡ Some at_q.0) (sym same) at_q.1.0

    u_at : slice_get (sources c.cells) k ≡ Some at_r.0
    u_at = subst (λ v. slice_get (sources v) k ≡ Some at_r.0) (sym same) at_r.1.0

    unlike : (AlikeIn c f at_q.0.part at_r.0.part q r → ⊥) → DiffersAt c f j k
    unlike apart = record {
      first = at_q.0;
      second = at_r.0;
      q = q;
      r = r;
      first_at = s_at;
      second_at = u_at;
      first_kind = at_q.1.1;
      second_kind = at_r.1.1;
      differs = apart;
    }

    moved : (d : DiffersAt c f j k) → AlikeIn c f at_q.0.part at_r.0.part q r → ⊥
    moved d alike =
        let first : at_q.0 ≡ d.first = some_source at_q.0 d.first (sym s_at ∙ d.first_at) in
        let second : at_r.0 ≡ d.second = some_source at_r.0 d.second (sym u_at ∙ d.second_at) in
        let one : q ≡ d.q = one_register d.first.kind q d.q (sym (ap (λ (z : Source). z.kind) first) ∙ at_q.1.1) d.first_kind in
        let two : r ≡ d.r = one_register d.second.kind r d.r (sym (ap (λ (z : Source). z.kind) second) ∙ at_r.1.1) d.second_kind in
        d.differs (subst (λ x. AlikeIn c f d.first.part d.second.part d.q x) two
        (subst (λ x. AlikeIn c f d.first.part d.second.part x r) one
        (subst (λ (x : Source). AlikeIn c f d.first.part x.part q r) second
        (subst (λ (x : Source). AlikeIn c f x.part at_r.0.part q r) first alike))))

    pub differs_told : (b : Bool) → AlikeTold c j k q r f b → IsTrue (not b) ↔ DiffersAt c f j k
    differs_told true told = ((λ h. absurd (false≢true h)), (λ d. absurd (moved d ((told at_q.0 at_r.0 s_at u_at at_q.1.1 at_r.1.1).0 refl))))
    differs_told false told = ((λ h. unlike (λ a. false≢true ((told at_q.0 at_r.0 s_at u_at at_q.1.1 at_r.1.1).1 a))), (λ d. refl))

-- ---- the copies of a register

module _ (c : Circuit) (t : Triple) (number : ℕ) (copies : List ℕ) (are : AreReadCopies c t number copies) where
  copy_is : (k : ℕ) (h : IsReadCopy c t number k) (s : Source) → slice_get (sources c.cells) k ≡ Some s → h.source ≡ s
  copy_is k h s at = some_source h.source s (sym h.numbered ∙ at)

  pub registers_differ : (f : checks.Field) → SomeDiffer c f copies → RegistersDiffer c t number (AlikeIn c f)
  registers_differ f x =
      let d = x.1.1.1.1 in
      let a = are.each x.0 x.1.0 in
      let b = are.each x.1.1.0 x.1.1.1.0 in
      let first = copy_is (get_or copies x.0 0) a d.first d.first_at in
      let second = copy_is (get_or copies x.1.1.0 0) b d.second d.second_at in (
        d.first,
        (
          d.second,
          (
            d.q,
            (
              d.r,
              (
                record {
                  first_cell = a.cell;
                  second_cell = b.cell;
                  first_copy = a.copy;
                  second_copy = b.copy;
                  first_is = sym (ap (λ (z : Source). z.part) first) ∙ a.is;
                  second_is = sym (ap (λ (z : Source). z.part) second) ∙ b.is;
                  first_read = subst (λ (z : Source). ReadPart c z) first a.read;
                  second_read = subst (λ (z : Source). ReadPart c z) second b.read;
                  first_kind = d.first_kind;
                  second_kind = d.second_kind;
                },
                d.differs,
              ),
            ),
          ),
        ),
      )

  there : (s : Source) (cell : List ℕ) → IsEntry t cell → s.part ≡ part_in cell (Register number) → ReadPart c s → (i : ℕ) × ((i < length copies) × (slice_get (sources c.cells) (get_or copies i 0) ≡ Some s))
  there s cell entry is read =
      let k = number_there (sources c.cells) s read.listed in
      let i = are.all k.0 (record { source = s; numbered = k.1; cell = cell; copy = entry; is = is; read = read }) in
      (i.0, (i.1.0, ap (slice_get (sources c.cells)) i.1.1 ∙ k.1))

  pub some_differ : (f : checks.Field) → RegistersDiffer c t number (AlikeIn c f) → SomeDiffer c f copies
  some_differ f x =
      let two = x.1.1.1.1.0 in
      let i = there x.0 two.first_cell two.first_copy two.first_is two.first_read in
      let j = there x.1.0 two.second_cell two.second_copy two.second_is two.second_read in (
        i.0,
        (
          i.1.0,
          (
            j.0,
            (
              j.1.0,
              record {
                first = x.0;
                second = x.1.0;
                q = x.1.1.0;
                r = x.1.1.1.0;
                first_at = i.1.1;
                second_at = j.1.1;
                first_kind = two.first_kind;
                second_kind = two.second_kind;
                differs = x.1.1.1.1.1;
              },
            ),
          ),
        ),
      )

  abbrev No : checks.Field → Type 0
  No f = SomeDiffer c f copies → ⊥

  first_is_by : (f : checks.Field) → SomeDiffer c f copies → ((g : checks.Field) → In (fields_before f) g → No g) → IsFirstField c t number f
  first_is_by f some none = record { differs = registers_differ f some; earlier = λ g i d. none g i (some_differ g d) }

  pub first_set : SomeDiffer c checks.InSet copies → IsFirstField c t number checks.InSet
  first_set some = first_is_by checks.InSet some (λ g i. absurd i)

  pub first_data : No checks.InSet → SomeDiffer c checks.InData copies → IsFirstField c t number checks.InData
  first_data set some = first_is_by checks.InData some (λ g i. elim i [ inl e ↦ subst No e set | inr j ↦ absurd j ])

  pub first_enable : No checks.InSet → No checks.InData → SomeDiffer c checks.InEnable copies → IsFirstField c t number checks.InEnable
  first_enable set input some = first_is_by checks.InEnable some (λ g i. elim i [ inl e ↦ subst No e set | inr j ↦ elim j [ inl e ↦ subst No e input | inr k ↦ absurd k ] ])

  pub first_reset : No checks.InSet → No checks.InData → No checks.InEnable → SomeDiffer c checks.InReset copies → IsFirstField c t number checks.InReset
  first_reset set input enable some = first_is_by checks.InReset some (λ g i. elim i [
    | inl e ↦ subst No e set
    | inr j ↦ elim j [ inl e ↦ subst No e input | inr k ↦ elim k [ inl e ↦ subst No e enable | inr l ↦ absurd l ] ]
  ])

  pub first_clock : No checks.InSet → No checks.InData → No checks.InEnable → No checks.InReset → SomeDiffer c checks.InClock copies → IsFirstField c t number checks.InClock
  first_clock set input enable reset some = first_is_by checks.InClock some (λ g i. elim i [
    | inl e ↦ subst No e set
    | inr j ↦ elim j [
      | inl e ↦ subst No e input
      | inr k ↦ elim k [ inl e ↦ subst No e enable | inr l ↦ elim l [ inl e ↦ subst No e reset | inr m ↦ absurd m ] ]
    ]
  ])

  none_by : (f : checks.Field) → No checks.InSet → No checks.InData → No checks.InEnable → No checks.InReset → No checks.InClock → No f
  none_by checks.InSet set input enable reset clock = set
  none_by checks.InData set input enable reset clock = input
  none_by checks.InEnable set input enable reset clock = enable
  none_by checks.InReset set input enable reset clock = reset
  none_by checks.InClock set input enable reset clock = clock

  pub no_field : No checks.InSet → No checks.InData → No checks.InEnable → No checks.InReset → No checks.InClock → (f : checks.Field) → RegistersDiffer c t number (AlikeIn c f) → ⊥
  no_field set input enable reset clock f d = none_by f set input enable reset clock (some_differ f d)
