-- Names, patterns, arcs, parts and pins can be told apart.
use Rattle.std.proofs.Common.{◌≡◌, ◌≢◌, ℕ, Bool, true, false, ◌⊎◌, inl, inr, List, [], ◌∷◌, refl, ap, ap₂}
use Rattle.patterns.specs.Bits.{DeviceBit, PatternBit}
use Rattle.records.specs.Database.{Arc}
use Rattle.records.specs.Side.{Domain, D0, D1, D2}
use Rattle.links.proofs.Members.{same_number}
use Rattle.fabric.specs.Graph.{GraphArc}
use Rattle.circuit.specs.Parts.{PartKind, Table, Register, Pad, PartRef}
use Rattle.circuit.specs.Pins.{PinRef}

-- two things are the same or they aren't
abbrev pub Told : {X : Type 0} → X → X → Type 0
Told a b = (a ≡ b) ⊎ (a ≢ b)

bools : (a b : Bool) → Told a b
bools true true = inl refl
bools false false = inl refl
bools true false = inr (λ e. let bad : ⊥ = cc in bad)
bools false true = inr (λ e. let bad : ⊥ = cc in bad)

pub domains : (a b : Domain) → Told a b
domains D0 D0 = inl refl
domains D1 D1 = inl refl
domains D2 D2 = inl refl
domains D0 D1 = inr (λ e. let bad : ⊥ = cc in bad)
domains D0 D2 = inr (λ e. let bad : ⊥ = cc in bad)
domains D1 D0 = inr (λ e. let bad : ⊥ = cc in bad)
domains D1 D2 = inr (λ e. let bad : ⊥ = cc in bad)
domains D2 D0 = inr (λ e. let bad : ⊥ = cc in bad)
domains D2 D1 = inr (λ e. let bad : ⊥ = cc in bad)

-- lists of things that can be told apart
lists : {X : Type 0} → ((a b : X) → Told a b) → (xs ys : List X) → Told xs ys
lists told [] [] = inl refl
lists told [] (y ∷ ys) = inr (λ e. let bad : ⊥ = cc in bad)
lists told (x ∷ xs) [] = inr (λ e. let bad : ⊥ = cc in bad)
lists {X} told (x ∷ xs) (y ∷ ys) = go (told x y) (lists told xs ys)
  where
    go : Told x y → Told xs ys → Told (x ∷ xs) (y ∷ ys)
    go (inl p) (inl q) = inl (ap₂ (λ z zs. z ∷ zs) p q)
    go (inl p) (inr n) = inr (λ e. n (let s : xs ≡ ys = cc in s))
    go (inr n) q = inr (λ e. n (let s : x ≡ y = cc in s))

pub names : (a b : List ℕ) → Told a b
names = lists same_number

device_bits : (a b : DeviceBit) → Told a b
device_bits a b = go (same_number a.frame b.frame) (same_number a.bit b.bit)
  where
    go : Told a.frame b.frame → Told a.bit b.bit → Told a b
    go (inl p) (inl q) = inl (λ i. record { frame = p i; bit = q i })
    go (inl p) (inr n) = inr (λ e. n (ap (λ x. x.bit) e))
    go (inr n) q = inr (λ e. n (ap (λ x. x.frame) e))

pattern_bits : (a b : PatternBit) → Told a b
pattern_bits a b = go (same_number a.frame b.frame) (same_number a.bit b.bit) (bools a.set b.set)
  where
    go : Told a.frame b.frame → Told a.bit b.bit → Told a.set b.set → Told a b
    go (inl p) (inl q) (inl r) = inl (λ i. record { frame = p i; bit = q i; set = r i })
    go (inl p) (inl q) (inr n) = inr (λ e. n (ap (λ x. x.set) e))
    go (inl p) (inr n) r = inr (λ e. n (ap (λ x. x.bit) e))
    go (inr n) q r = inr (λ e. n (ap (λ x. x.frame) e))

database_arcs : (a b : Arc) → Told a b
database_arcs a b = go (names a.source b.source) (lists pattern_bits a.bits b.bits)
  where
    go : Told a.source b.source → Told a.bits b.bits → Told a b
    go (inl p) (inl q) = inl (λ i. record { source = p i; bits = q i })
    go (inl p) (inr n) = inr (λ e. n (ap (λ x. x.bits) e))
    go (inr n) q = inr (λ e. n (ap (λ x. x.source) e))

-- the place of an arc and its wires, and what else it has
ends : (a b : GraphArc) → Told a.mux b.mux → Told a.place b.place → Told a.source b.source → Told a.sink b.sink → Told a.origin b.origin → Told a.arc b.arc → Told a b
ends a b (inl m) (inl p) (inl s) (inl t) (inl o) (inl c) = inl (λ i. record { mux = m i; place = p i; source = s i; sink = t i; origin = o i; arc = c i })
ends a b (inl m) (inl p) (inl s) (inl t) (inl o) (inr n) = inr (λ e. n (ap (λ x. x.arc) e))
ends a b (inl m) (inl p) (inl s) (inl t) (inr n) c = inr (λ e. n (ap (λ x. x.origin) e))
ends a b (inl m) (inl p) (inl s) (inr n) o c = inr (λ e. n (ap (λ x. x.sink) e))
ends a b (inl m) (inl p) (inr n) t o c = inr (λ e. n (ap (λ x. x.source) e))
ends a b (inl m) (inr n) s t o c = inr (λ e. n (ap (λ x. x.place) e))
ends a b (inr n) p s t o c = inr (λ e. n (ap (λ x. x.mux) e))

pub arcs : (a b : GraphArc) → Told a b
arcs a b = ends a b (same_number a.mux b.mux) (same_number a.place b.place) (same_number a.source b.source) (same_number a.sink b.sink) (device_bits a.origin b.origin) (database_arcs a.arc b.arc)

part_kinds : (a b : PartKind) → Told a b
part_kinds (Table m) (Table n) = elim (same_number m n) [ inl e ↦ inl (ap Table e) | inr d ↦ inr (λ e. d (let s : m ≡ n = cc in s)) ]
part_kinds (Register m) (Register n) = elim (same_number m n) [ inl e ↦ inl (ap Register e) | inr d ↦ inr (λ e. d (let s : m ≡ n = cc in s)) ]
part_kinds Pad Pad = inl refl
part_kinds (Table m) (Register n) = inr (λ e. let bad : ⊥ = cc in bad)
part_kinds (Table m) Pad = inr (λ e. let bad : ⊥ = cc in bad)
part_kinds (Register m) (Table n) = inr (λ e. let bad : ⊥ = cc in bad)
part_kinds (Register m) Pad = inr (λ e. let bad : ⊥ = cc in bad)
part_kinds Pad (Table n) = inr (λ e. let bad : ⊥ = cc in bad)
part_kinds Pad (Register n) = inr (λ e. let bad : ⊥ = cc in bad)

pub parts : (a b : PartRef) → Told a b
parts a b = go (names a.cell b.cell) (part_kinds a.part b.part)
  where
    go : Told a.cell b.cell → Told a.part b.part → Told a b
    go (inl p) (inl q) = inl (λ i. record { cell = p i; part = q i })
    go (inl p) (inr n) = inr (λ e. n (ap (λ x. x.part) e))
    go (inr n) q = inr (λ e. n (ap (λ x. x.cell) e))

pub pin_refs : (a b : PinRef) → Told a b
pin_refs a b = go (parts a.part b.part) (same_number a.pin b.pin)
  where
    go : Told a.part b.part → Told a.pin b.pin → Told a b
    go (inl p) (inl q) = inl (λ i. record { part = p i; pin = q i })
    go (inl p) (inr n) = inr (λ e. n (ap (λ x. x.pin) e))
    go (inr n) q = inr (λ e. n (ap (λ x. x.part) e))
