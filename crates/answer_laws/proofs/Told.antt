-- Cells, and the names of cells with their domains, can be told apart.
use Rattle.std.proofs.Common.{◌≡◌, ◌≢◌, ℕ, Bool, true, false, ◌⊎◌, inl, inr, List, [], ◌∷◌, refl, sym, ap, ap₂, ◌∙◌}
use Rattle.patterns.specs.Bits.{DeviceBit}
use Rattle.records.specs.Side.{Domain}
use Rattle.links.proofs.Members.{same_number}
use Rattle.circuit.specs.Cells.{TableCell, Input, InputWire, InputNotWire, InputZero, InputOne, RegisterCell, SliceCell, Role, InputPad, OutputPad, ClockPad, PadCell, Cells}
use Rattle.circuit.specs.Triples.{Member}
use Rattle.route_laws.proofs.Same.{Told, domains, names}

-- what is made of a thing that can be told, and back
told_by : {X Y : Type 0} (f : X → Y) (g : Y → X) → ((x : X) → g (f x) ≡ x) → ((a b : Y) → Told a b) → (x y : X) → Told x y
told_by f g back told x y = elim (told (f x) (f y)) [ inl e ↦ inl (sym (back x) ∙ ap g e ∙ back y) | inr n ↦ inr (λ e. n (ap f e)) ]

told_pair : {X Y : Type 0} → ((a b : X) → Told a b) → ((a b : Y) → Told a b) → (p q : X × Y) → Told p q
told_pair first second p q = go (first p.0 q.0) (second p.1 q.1)
  where
    go : Told p.0 q.0 → Told p.1 q.1 → Told p q
    go (inl e) (inl f) = inl (λ i. (e i, f i))
    go (inl e) (inr n) = inr (λ f. n (ap (λ z. z.1) f))
    go (inr n) t = inr (λ e. n (ap (λ z. z.0) e))

told_list : {X : Type 0} → ((a b : X) → Told a b) → (xs ys : List X) → Told xs ys
told_list told [] [] = inl refl
told_list told [] (y ∷ ys) = inr (λ e. let bad : ⊥ = cc in bad)
told_list told (x ∷ xs) [] = inr (λ e. let bad : ⊥ = cc in bad)
told_list {X} told (x ∷ xs) (y ∷ ys) = go (told x y) (told_list told xs ys)
  where
    go : Told x y → Told xs ys → Told (x ∷ xs) (y ∷ ys)
    go (inl p) (inl q) = inl (ap₂ (λ z zs. z ∷ zs) p q)
    go (inl p) (inr n) = inr (λ e. n (let s : xs ≡ ys = cc in s))
    go (inr n) q = inr (λ e. n (let s : x ≡ y = cc in s))

told_bool : (a b : Bool) → Told a b
told_bool true true = inl refl
told_bool false false = inl refl
told_bool true false = inr (λ e. let bad : ⊥ = cc in bad)
told_bool false true = inr (λ e. let bad : ⊥ = cc in bad)

told_bit : (a b : DeviceBit) → Told a b
told_bit = told_by (λ b. (b.frame, b.bit)) (λ p. record { frame = p.0; bit = p.1 }) (λ b. refl) (told_pair same_number same_number)

-- an input as its form and its wire
abbrev form : Input → (Bool × Bool) × ℕ
form (InputWire w) = ((false, false), w)
form (InputNotWire w) = ((false, true), w)
form InputZero = ((true, false), 0)
form InputOne = ((true, true), 0)

abbrev of_form : Bool → Bool → ℕ → Input
of_form false false w = InputWire w
of_form false true w = InputNotWire w
of_form true false w = InputZero
of_form true true w = InputOne

form_back : (x : Input) → of_form (form x).0.0 (form x).0.1 (form x).1 ≡ x
form_back (InputWire w) = refl
form_back (InputNotWire w) = refl
form_back InputZero = refl
form_back InputOne = refl

told_input : (x y : Input) → Told x y
told_input = told_by form (λ p. of_form p.0.0 p.0.1 p.1) form_back (told_pair (told_pair told_bool told_bool) same_number)

abbrev code : Role → Bool × Bool
code InputPad = (false, false)
code OutputPad = (false, true)
code ClockPad = (true, false)

abbrev of_code : Bool → Bool → Role
of_code false false = InputPad
of_code false true = OutputPad
of_code true b = ClockPad

code_back : (r : Role) → of_code (code r).0 (code r).1 ≡ r
code_back InputPad = refl
code_back OutputPad = refl
code_back ClockPad = refl

told_role : (r s : Role) → Told r s
told_role = told_by code (λ p. of_code p.0 p.1) code_back (told_pair told_bool told_bool)

told_table : (s t : TableCell) → Told s t
told_table = told_by (λ t. (t.word, (t.pins, t.out))) (λ p. record { word = p.0; pins = p.1.0; out = p.1.1 }) (λ t. refl) (told_pair same_number (told_pair (told_list same_number) same_number))

told_register : (q r : RegisterCell) → Told q r
told_register = told_by (λ r. (r.input, (r.enable, (r.reset, (r.set, (r.clock, r.out))))))
    (λ p. record { input = p.0; enable = p.1.0; reset = p.1.1.0; set = p.1.1.1.0; clock = p.1.1.1.1.0; out = p.1.1.1.1.1 }) (λ r. refl)
    (told_pair told_input (told_pair told_input (told_pair told_input (told_pair told_bool (told_pair told_input same_number)))))

told_slice : (s t : SliceCell) → Told s t
told_slice = told_by (λ s. (s.name, (s.domain, (s.tables, (s.registers, s.bits))))) (λ p. record { name = p.0; domain = p.1.0; tables = p.1.1.0; registers = p.1.1.1.0; bits = p.1.1.1.1 }) (λ s. refl)
    (told_pair names (told_pair domains (told_pair (told_list told_table) (told_pair (told_list told_register) (told_list told_bit)))))

told_pad : (p q : PadCell) → Told p q
told_pad = told_by (λ p. (p.name, (p.domain, (p.role, (p.wire, p.bits))))) (λ p. record { name = p.0; domain = p.1.0; role = p.1.1.0; wire = p.1.1.1.0; bits = p.1.1.1.1 }) (λ p. refl)
    (told_pair names (told_pair domains (told_pair told_role (told_pair same_number (told_list told_bit)))))

pub told_cells : (c d : Cells) → Told c d
told_cells = told_by (λ c. (c.slices, c.pads)) (λ p. record { slices = p.0; pads = p.1 }) (λ c. refl) (told_pair (told_list told_slice) (told_list told_pad))

pub told_member : (m n : Member) → Told m n
told_member = told_by (λ m. (m.name, m.domain)) (λ p. record { name = p.0; domain = p.1 }) (λ m. refl) (told_pair names domains)
