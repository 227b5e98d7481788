-- Parts and pins that are found by their names.
use Rattle.std.proofs.Common.{◌≡◌, Bool, true, Option, Some, None, refl, ap, subst}
use Rattle.std.specs.Option.{option_map_or}
use Rattle.std.specs.declared.cmp.Ordering.{Ordering}
use Rattle.std.specs.declared.cmp.Ordering.TheVariants.{Less, Equal, Greater}
use Rattle.std.specs.Ordering.{nat_cmp, ordering_then, is_eq}
use Rattle.std.specs.FinMap.{nat_cmp-IsAntisymmetric}
use Rattle.std.proofs.lemmas.Bool.{false≢true}
use Rattle.words.specs.Members.{In}
use Rattle.fabric.specs.Wires.{name_cmp}
use Rattle.circuit.specs.Cells.{Cells}
use Rattle.circuit.specs.Parts.{PartKind, Table, Register, Pad, PartRef, Source, sources}
use Rattle.circuit.specs.Pins.{PinRef, Pin, pins}
use Rattle.circuit.specs.Circuits.{Connection}
use Rattle.attempts.specs.PinOrder.{rank_of, number_of, part_cmp, pin_cmp}
use Rattle.attempts.specs.Wires.{source_named, pin_named, pin_wire}
use Rattle.fabric_laws.proofs.Members.{find_from}
use Rattle.fabric_laws.proofs.Orders.{first_ties, second_ties, name_same}
use Rattle.std.specs.Cmp.{IsTotalOrder, nat_cmp_total, on_total, then_total, tied_itself}
use Rattle.std.specs.Cmp.Lexicographic.{nat_list_cmp_total}
use Rattle.formed_laws.proofs.Found.{found_none}
use Rattle.circuit_laws.proofs.Same.{part_path}

is_equal : (o : Ordering) → is_eq o ≡ true → o ≡ Equal
is_equal Less h = absurd (false≢true h)
is_equal Equal h = refl
is_equal Greater h = absurd (false≢true h)

-- kinds of parts of one rank and number are one
same_kind : (a b : PartKind) → rank_of a ≡ rank_of b → number_of a ≡ number_of b → a ≡ b
same_kind (Table m) (Table n) e f = ap Table f
same_kind (Table m) (Register n) e f = absurd (let no : ⊥ = cc in no)
same_kind (Table m) Pad e f = absurd (let no : ⊥ = cc in no)
same_kind (Register m) (Table n) e f = absurd (let no : ⊥ = cc in no)
same_kind (Register m) (Register n) e f = ap Register f
same_kind (Register m) Pad e f = absurd (let no : ⊥ = cc in no)
same_kind Pad (Table n) e f = absurd (let no : ⊥ = cc in no)
same_kind Pad (Register n) e f = absurd (let no : ⊥ = cc in no)
same_kind Pad Pad e f = refl

-- parts that tie are one, and so are pins
part_ties : (a b : PartRef) → part_cmp a b ≡ Equal → a ≡ b
part_ties a b h =
    let ranks = nat_cmp (rank_of a.part) (rank_of b.part) in
    let numbers = nat_cmp (number_of a.part) (number_of b.part) in
    let kinds = second_ties (name_cmp a.cell b.cell) (ordering_then ranks numbers) h in
    part_path a b (name_same a.cell b.cell (first_ties (name_cmp a.cell b.cell) (ordering_then ranks numbers) h))
    (same_kind a.part b.part (nat_cmp-IsAntisymmetric (rank_of a.part) (rank_of b.part) (first_ties ranks numbers kinds))
    (nat_cmp-IsAntisymmetric (number_of a.part) (number_of b.part) (second_ties ranks numbers kinds)))

pin_ties : (a b : PinRef) → pin_cmp a b ≡ Equal → a ≡ b
pin_ties a b h =
    let parts = part_ties a.part b.part (first_ties (part_cmp a.part b.part) (nat_cmp a.pin b.pin) h) in
    let numbers = nat_cmp-IsAntisymmetric a.pin b.pin (second_ties (part_cmp a.part b.part) (nat_cmp a.pin b.pin) h) in
    λ i. record { part = parts i; pin = numbers i }

part_total : IsTotalOrder part_cmp
part_total = then_total (on_total (λ p. p.cell) nat_list_cmp_total) (then_total (on_total (λ p. rank_of p.part) nat_cmp_total) (on_total (λ p. number_of p.part) nat_cmp_total))

pin_total : IsTotalOrder pin_cmp
pin_total = then_total (on_total (λ p. p.part) part_total) (on_total (λ p. p.pin) nat_cmp_total)

-- a part that is found by its name is one of the cells' and has that name
pub source_found : (cells : Cells) (part : PartRef) (s : Source) → source_named cells part ≡ Some s → In (sources cells) s × (s.part ≡ part)
source_found cells part s h =
    let f = find_from (λ (u : Source). is_eq (part_cmp u.part part)) (sources cells) s h in
    (f.0, part_ties s.part part (is_equal (part_cmp s.part part) f.1))

-- the test by which a pin is found
abbrev has_ref : PinRef → Pin → Bool
has_ref r q = is_eq (pin_cmp q.ref r)

-- a pin of the cells is found by its name, with the wire that a connection to it has
pub pin_found : (cells : Cells) (x : Connection) (p : Pin) → In (pins cells) p → p.ref ≡ x.pin → (q : Pin) × (In (pins cells) q × ((q.ref ≡ x.pin) × (pin_wire cells x ≡ q.wire)))
pin_found cells x p i e = go (pin_named cells x.pin) refl
  where
    go : (o : Option Pin) → pin_named cells x.pin ≡ o → (q : Pin) × (In (pins cells) q × ((q.ref ≡ x.pin) × (pin_wire cells x ≡ q.wire)))
    go None h = absurd (found_none (has_ref x.pin) (pins cells) h p i (ap is_eq (subst (λ r. pin_cmp p.ref r ≡ Equal) e (tied_itself pin_total p.ref))))
    go (Some q) h =
        let f = find_from (has_ref x.pin) (pins cells) q h in
        (q, (f.0, (pin_ties q.ref x.pin (is_equal (pin_cmp q.ref x.pin) f.1), ap (λ o. option_map_or (λ (r : Pin). r.wire) o 0) h)))
