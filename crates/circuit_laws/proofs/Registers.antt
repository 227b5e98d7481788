-- What registers take, and what they hold next.
use Rattle.std.proofs.Common.{◌≡◌, ℕ, not, ◌++◌, inl, inr, refl, sym, ap, subst, ◌∙◌, if◌then◌else◌}
use Rattle.words.specs.Members.{In}
use Rattle.circuit.specs.Cells.{Input, InputWire, InputNotWire, InputZero, InputOne, RegisterCell}
use Rattle.circuit.specs.Parts.{PartRef, OfRegister, Source, sources}
use Rattle.circuit.specs.Pins.{Pin, pin_at, input_pin, data_pins, clock_pins, clock_pins_of}
use Rattle.circuit.specs.Circuits.{Circuit}
use Rattle.circuit.specs.Worlds.{Clock, World, bit_of}
use Rattle.circuit.specs.Runs.{taken, next_bit, IsClocked}
use Rattle.circuit.specs.Registers.{FedAlike, TakesAlike}
use Rattle.circuit.specs.Tables.{Ignores}
use Rattle.circuit.specs.Triplicated.{ReadPart, IsVoter, IsTriplicated}
use Rattle.links.proofs.Members.{in_left, in_right}
use Rattle.links.proofs.Feeds.{is_fed}
use Rattle.circuit_laws.proofs.Parts.{Fits, kind_fits, register_bit}
use Rattle.circuit_laws.proofs.Outside.{Feeder, feeder}

-- the pins data, enable and reset of a register are its pins but the clock
pub input_listed : (part : PartRef) (r : RegisterCell) (p : Pin) → In (input_pin part 0 r.input) p → In (data_pins part r) p
input_listed part r p i = in_left (input_pin part 0 r.input ++ input_pin part 1 r.enable) (input_pin part 2 r.reset) p (in_left (input_pin part 0 r.input) (input_pin part 1 r.enable) p i)

pub enable_listed : (part : PartRef) (r : RegisterCell) (p : Pin) → In (input_pin part 1 r.enable) p → In (data_pins part r) p
enable_listed part r p i = in_left (input_pin part 0 r.input ++ input_pin part 1 r.enable) (input_pin part 2 r.reset) p (in_right (input_pin part 0 r.input) (input_pin part 1 r.enable) p i)

pub reset_listed : (part : PartRef) (r : RegisterCell) (p : Pin) → In (input_pin part 2 r.reset) p → In (data_pins part r) p
reset_listed part r p i = in_right (input_pin part 0 r.input ++ input_pin part 1 r.enable) (input_pin part 2 r.reset) p i

-- the next bit goes by what the register takes
pub next_same : (v w : World) (s u : PartRef) (q r : RegisterCell) → taken v s 2 q.reset ≡ taken w u 2 r.reset → q.set ≡ r.set
    → taken v s 1 q.enable ≡ taken w u 1 r.enable → taken v s 0 q.input ≡ taken w u 0 r.input
    → v.part s ≡ w.part u → next_bit v s q ≡ next_bit w u r
next_same v w s u q r a b c d e =
    ap (λ x. if x then q.set else (if taken v s 1 q.enable then taken v s 0 q.input else v.part s)) a
    ∙ (ap (λ x. if taken w u 2 r.reset then x else (if taken v s 1 q.enable then taken v s 0 q.input else v.part s)) b
    ∙ (ap (λ x. if taken w u 2 r.reset then r.set else (if x then taken v s 0 q.input else v.part s)) c
    ∙ (ap (λ x. if taken w u 2 r.reset then r.set else (if taken w u 1 r.enable then x else v.part s)) d
    ∙ ap (λ x. if taken w u 2 r.reset then r.set else (if taken w u 1 r.enable then taken w u 0 r.input else x)) e)))

-- one input takes the same in two worlds in which its pin counts as one bit
pub same_taken : (v w : World) (part : PartRef) (n : ℕ) (x : Input)
    → ((p : Pin) → In (input_pin part n x) p → bit_of v p ≡ bit_of w p) → taken v part n x ≡ taken w part n x
same_taken v w part n (InputWire a) h = h (pin_at part n a) (inl refl)
same_taken v w part n (InputNotWire a) h = ap not (h (pin_at part n a) (inl refl))
same_taken v w part n InputZero h = refl
same_taken v w part n InputOne h = refl

-- two inputs of one form take the same where their pins, fed by one triple, count as one bit
pub alike_taken : (c : Circuit) (v : World) (s u : PartRef) (n : ℕ) (x y : Input) → TakesAlike c s u n x y
    → ((p q : Pin) → In (input_pin s n x) p → In (input_pin u n y) q → FedAlike c p q → bit_of v p ≡ bit_of v q) → taken v s n x ≡ taken v u n y
alike_taken c v s u n (InputWire a) (InputWire b) alike h = h (pin_at s n a) (pin_at u n b) (inl refl) (inl refl) alike
alike_taken c v s u n (InputNotWire a) (InputNotWire b) alike h = ap not (h (pin_at s n a) (pin_at u n b) (inl refl) (inl refl) alike)
alike_taken c v s u n InputZero InputZero alike h = refl
alike_taken c v s u n InputOne InputOne alike h = refl
alike_taken c v s u n _ _ alike h = absurd alike

-- a register is clocked where its clock pin's wire carries `clock`
pub clocked_at : (w : World) (part : PartRef) (x : Input) (p : Pin) → In (input_pin part 3 x) p → w.wire p.wire ≡ Clock → IsClocked w x
clocked_at w part (InputWire a) p i e = elim i [ inl same ↦ subst (λ z. w.wire z.wire ≡ Clock) (sym same) e | inr j ↦ absurd j ]
clocked_at w part (InputNotWire a) p i e = elim i [ inl same ↦ subst (λ z. w.wire z.wire ≡ Clock) (sym same) e | inr j ↦ absurd j ]
clocked_at w part InputZero p i e = absurd i
clocked_at w part InputOne p i e = absurd i

pub clock_pin_of : (s : Source) (r : RegisterCell) (p : Pin) → s.kind ≡ OfRegister r → In (clock_pins s) p → In (input_pin s.part 3 r.clock) p
clock_pin_of s r p ks i = subst (λ k. In (clock_pins_of s.part k) p) ks i

-- a register is no voter
pub no_voter : (c : Circuit) (s : Source) (r : RegisterCell) → In (sources c.cells) s → s.kind ≡ OfRegister r → IsVoter c s.part → ⊥
no_voter c s r i ks voter =
    let fits : Fits s.part.part (OfRegister r) = subst (Fits s.part.part) ks (kind_fits c.cells s i) in
    subst (λ z. Fits z (OfRegister r)) voter.1.0 fits

-- each pin of a read register but its clock is fed from the register's own domain
pub register_fed : (c : Circuit) → IsTriplicated c → (s : Source) (r : RegisterCell) (p : Pin) → ReadPart c s
    → s.kind ≡ OfRegister r → In (data_pins s.part r) p → (g : Feeder c s p) × (g.source.domain ≡ s.domain)
register_fed c tri s r p rs ks ip =
    let bp = register_bit s r ks p ip in
    elim (is_fed c.routing p.wire) [
      | inl x ↦ (let g = feeder c tri s p rs bp x in (g, elim g.own [ inl e ↦ e | inr h ↦ absurd (no_voter c s r rs.listed ks h) ]))
      | inr h ↦ absurd (subst (λ k. Ignores k p.ref.pin) ks (tri.open_pins.parts s p rs bp h))
    ]
