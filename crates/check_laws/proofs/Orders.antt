-- The orders of parts, pins and muxes are total, and elements that tie are one.
use Rattle.std.proofs.Common.{◌≡◌, ℕ, refl, ap}
use Rattle.std.specs.declared.cmp.Ordering.TheVariants.{Equal}
use Rattle.std.specs.Ordering.{nat_cmp, ordering_then}
use Rattle.std.specs.Cmp.{IsTotalOrder, nat_cmp_total, on_total, then_total}
use Rattle.std.specs.Cmp.Lexicographic.{nat_list_cmp_total}
use Rattle.std.specs.FinMap.{nat_cmp-IsAntisymmetric}
use Rattle.fabric.specs.Wires.{name_cmp}
use Rattle.circuit.specs.Parts.{PartKind, Table, Register, Pad, PartRef}
use Rattle.circuit.specs.Pins.{PinRef}
use Rattle.attempts.specs.PinOrder.{rank_of, number_of, part_cmp, pin_cmp}
use Rattle.fabric_laws.proofs.Orders.{first_ties, second_ties, name_same}
use Rattle.design_checks.specs.RoutingChecks.{MuxName, mux_name_cmp}

pub part_total : IsTotalOrder part_cmp
part_total = then_total (on_total (λ p. p.cell) nat_list_cmp_total) (then_total (on_total (λ p. rank_of p.part) nat_cmp_total) (on_total (λ p. number_of p.part) nat_cmp_total))

pub pin_total : IsTotalOrder pin_cmp
pin_total = then_total (on_total (λ p. p.part) part_total) (on_total (λ p. p.pin) nat_cmp_total)

pub mux_total : IsTotalOrder mux_name_cmp
mux_total = then_total (on_total (λ m. m.tile) nat_list_cmp_total) (on_total (λ m. m.sink) nat_list_cmp_total)

-- ---- elements that tie

pub number_same : (m n : ℕ) → nat_cmp m n ≡ Equal → m ≡ n
number_same = nat_cmp-IsAntisymmetric

kind_same : (x y : PartKind) → rank_of x ≡ rank_of y → number_of x ≡ number_of y → x ≡ y
kind_same (Table m) (Table n) e f = ap Table f
kind_same (Table m) (Register n) e f = absurd (let no : ⊥ = cc in no)
kind_same (Table m) Pad e f = absurd (let no : ⊥ = cc in no)
kind_same (Register m) (Table n) e f = absurd (let no : ⊥ = cc in no)
kind_same (Register m) (Register n) e f = ap Register f
kind_same (Register m) Pad e f = absurd (let no : ⊥ = cc in no)
kind_same Pad (Table n) e f = absurd (let no : ⊥ = cc in no)
kind_same Pad (Register n) e f = absurd (let no : ⊥ = cc in no)
kind_same Pad Pad e f = refl

pub part_same : (a b : PartRef) → part_cmp a b ≡ Equal → a ≡ b
part_same a b h =
    let ranks = nat_cmp (rank_of a.part) (rank_of b.part) in
    let numbers = nat_cmp (number_of a.part) (number_of b.part) in
    let cells = name_same a.cell b.cell (first_ties (name_cmp a.cell b.cell) (ordering_then ranks numbers) h) in
    let rest = second_ties (name_cmp a.cell b.cell) (ordering_then ranks numbers) h in
    let kinds = kind_same a.part b.part (number_same (rank_of a.part) (rank_of b.part) (first_ties ranks numbers rest)) (number_same (number_of a.part) (number_of b.part) (second_ties ranks numbers rest)) in
    λ i. record { cell = cells i; part = kinds i }

pub pin_same : (a b : PinRef) → pin_cmp a b ≡ Equal → a ≡ b
pin_same a b h =
    let parts = part_same a.part b.part (first_ties (part_cmp a.part b.part) (nat_cmp a.pin b.pin) h) in
    let numbers = number_same a.pin b.pin (second_ties (part_cmp a.part b.part) (nat_cmp a.pin b.pin) h) in
    λ i. record { part = parts i; pin = numbers i }

pub mux_same : (a b : MuxName) → mux_name_cmp a b ≡ Equal → a ≡ b
mux_same a b h =
    let tiles = name_same a.tile b.tile (first_ties (name_cmp a.tile b.tile) (name_cmp a.sink b.sink) h) in
    let sinks = name_same a.sink b.sink (second_ties (name_cmp a.tile b.tile) (name_cmp a.sink b.sink) h) in
    λ i. record { tile = tiles i; sink = sinks i }
