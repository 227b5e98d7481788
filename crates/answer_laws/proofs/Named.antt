-- Parts that are found by their names, and connections that tie in the order of their wires.
use Rattle.std.proofs.Common.{◌≡◌, ℕ, true, Option, Some, None, refl, sym, ap, subst, ◌∙◌}
use Rattle.std.specs.declared.cmp.Ordering.{Ordering}
use Rattle.std.specs.declared.cmp.Ordering.TheVariants.{Less, Equal, Greater}
use Rattle.std.specs.Option.{option_map_or}
use Rattle.std.specs.Ordering.{nat_cmp, ordering_then, is_eq}
use Rattle.std.specs.Cmp.{IsTotalOrder, nat_cmp_total, on_total, then_total, tied_itself}
use Rattle.std.proofs.lemmas.Bool.{false≢true}
use Rattle.words.specs.Members.{In}
use Rattle.circuit.specs.Cells.{Cells}
use Rattle.circuit.specs.Parts.{PartRef, Source, sources}
use Rattle.circuit.specs.Circuits.{Connection}
use Rattle.circuit.specs.Designs.{shape_of}
use Rattle.attempts.specs.PinOrder.{part_cmp, pin_cmp}
use Rattle.attempts.specs.Wires.{source_named, net_wire, pin_wire, connection_cmp}
use Rattle.fabric_laws.proofs.Members.{find_from}
use Rattle.fabric_laws.proofs.Orders.{first_ties, second_ties}
use Rattle.circuit_laws.proofs.Shapes.{twin_source}
use Rattle.formed_laws.proofs.Found.{found_none}
use Rattle.attempt_laws.proofs.Orders.{part_total, pin_total}
use Rattle.check_laws.proofs.Orders.{number_same, part_same, pin_same}
use Rattle.answer_laws.specs.Named.{IsNamed}

-- the part of a name that is found
pub record IsFound (cells : Cells) (part : PartRef) : Type 0 where
  pub source : Source
  pub found : source_named cells part ≡ Some source
  pub listed : In (sources cells) source
  pub is : source.part ≡ part

is_equal : (o : Ordering) → is_eq o ≡ true → o ≡ Equal
is_equal Less h = absurd (false≢true h)
is_equal Equal h = refl
is_equal Greater h = absurd (false≢true h)

pub found_by_name : (cells : Cells) (part : PartRef) → IsNamed cells part → IsFound cells part
found_by_name cells part n = go (source_named cells part) refl
  where
    go : (o : Option Source) → source_named cells part ≡ o → IsFound cells part
    go None h = absurd (found_none (λ (s : Source). is_eq (part_cmp s.part part)) (sources cells) h n.source n.listed
        (ap is_eq (subst (λ p. part_cmp n.source.part p ≡ Equal) n.is (tied_itself part_total n.source.part))))
    go (Some s) h =
        let f = find_from (λ (u : Source). is_eq (part_cmp u.part part)) (sources cells) s h in
        record { source = s; found = h; listed = f.0; is = part_same s.part part (is_equal (part_cmp s.part part) f.1) }

-- cells of one shape have parts of the same names
pub named_along : (a b : Cells) → shape_of a ≡ shape_of b → (part : PartRef) → IsNamed a part → IsNamed b part
named_along a b same part n =
    let u = twin_source a b same n.source n.listed in
    record { source = u.0; listed = u.1.0; is = ap (λ s. s.part) u.1.1 ∙ n.is }

pub connection_total : (cells : Cells) → IsTotalOrder (connection_cmp cells)
connection_total cells = then_total (on_total (net_wire cells) nat_cmp_total) (then_total (on_total (pin_wire cells) nat_cmp_total) (on_total (λ x. x.pin) pin_total))

-- each output is that of one part
abbrev pub HasOutputsApart : Cells → Type 0
HasOutputsApart cells = (s u : Source) → In (sources cells) s → In (sources cells) u → s.out ≡ u.out → s ≡ u

abbrev out_of : Option Source → ℕ
out_of o = option_map_or (λ (s : Source). s.out) o 0

module _ (cells : Cells) (x y : Connection) where
  abbrev nets : Ordering
  nets = nat_cmp (net_wire cells x) (net_wire cells y)

  abbrev at_pins : Ordering
  at_pins = nat_cmp (pin_wire cells x) (pin_wire cells y)

  same_pin : connection_cmp cells x y ≡ Equal → x.pin ≡ y.pin
  same_pin e = pin_same x.pin y.pin (second_ties at_pins (pin_cmp x.pin y.pin) (second_ties nets (ordering_then at_pins (pin_cmp x.pin y.pin)) e))

  same_source : HasOutputsApart cells → IsFound cells x.source → IsFound cells y.source → connection_cmp cells x y ≡ Equal → x.source ≡ y.source
  same_source apart a b e =
      let wires : a.source.out ≡ b.source.out = sym (ap out_of a.found) ∙ number_same (net_wire cells x) (net_wire cells y) (first_ties nets (ordering_then at_pins (pin_cmp x.pin y.pin)) e) ∙ ap out_of b.found in
      sym a.is ∙ ap (λ s. s.part) (apart a.source b.source a.listed b.listed wires) ∙ b.is

  -- connections of named parts that tie are one, where outputs are apart
  pub ties_are_one : HasOutputsApart cells → IsNamed cells x.source → IsNamed cells y.source → connection_cmp cells x y ≡ Equal → y ≡ x
  ties_are_one apart n m e =
      let source = same_source apart (found_by_name cells x.source n) (found_by_name cells y.source m) e in
      let pin = same_pin e in
      λ i. record { source = sym source i; pin = sym pin i }
