-- The tests of parts, pins and connections are exact, and so is the list of connections.
use Rattle.std.proofs.Common.{◌≡◌, true, ◌↔◌, List, map, filter, refl, sym, ap, subst, eq-eqb}
use Rattle.std.specs.Prelude.{flat_map}
use Rattle.std.proofs.lemmas.Bool.{false≢true, eqb-true}
use Rattle.words.specs.Members.{In}
use Rattle.links.proofs.Members.{in_map, of_map, in_flat_map, of_flat_map}
use Rattle.links.specs.Below.{below, has}
use Rattle.circuit.specs.Parts.{PartKind, Table, Register, Pad, PartRef, Source, sources}
use Rattle.circuit.specs.Pins.{PinRef, Pin, pins}
use Rattle.circuit.specs.Circuits.{Circuit, Connection, IsConnection}
use Rattle.route_laws.specs.PlainParts.{same_kind, same_part, same_pin, same_connection, connections, is_listed}
use Rattle.route_laws.proofs.Tests.{Tells, tells_as, tells_and, tells_any, filtered, tells_number, tells_name, tells_has, tells_below}

kind_from : (a b : PartKind) → same_kind a b ≡ true → a ≡ b
kind_from (Table m) (Table n) h = ap Table (eqb-true m n h)
kind_from (Register m) (Register n) h = ap Register (eqb-true m n h)
kind_from Pad Pad h = refl
kind_from (Table m) (Register n) h = absurd (false≢true h)
kind_from (Table m) Pad h = absurd (false≢true h)
kind_from (Register m) (Table n) h = absurd (false≢true h)
kind_from (Register m) Pad h = absurd (false≢true h)
kind_from Pad (Table n) h = absurd (false≢true h)
kind_from Pad (Register n) h = absurd (false≢true h)

kind_same : (a : PartKind) → same_kind a a ≡ true
kind_same (Table m) = eq-eqb m m refl
kind_same (Register m) = eq-eqb m m refl
kind_same Pad = refl

tells_kind : (a b : PartKind) → Tells (same_kind a b) (a ≡ b)
tells_kind a b = record { from = kind_from a b; to = λ e. subst (λ x. same_kind a x ≡ true) e (kind_same a) }

pub tells_part : (a b : PartRef) → Tells (same_part a b) (a ≡ b)
tells_part a b = tells_as (λ h. let cells = h.0 in let parts = h.1 in λ i. record { cell = cells i; part = parts i }) (λ e. (ap (λ x. x.cell) e, ap (λ x. x.part) e))
    (tells_and (tells_name a.cell b.cell) (tells_kind a.part b.part))

pub tells_pin : (a b : PinRef) → Tells (same_pin a b) (a ≡ b)
tells_pin a b = tells_as (λ h. let parts = h.0 in let numbers = h.1 in λ i. record { part = parts i; pin = numbers i }) (λ e. (ap (λ x. x.part) e, ap (λ x. x.pin) e))
    (tells_and (tells_part a.part b.part) (tells_number a.pin b.pin))

pub tells_connection : (x y : Connection) → Tells (same_connection x y) (x ≡ y)
tells_connection x y = tells_as (λ h. let parts = h.0 in let refs = h.1 in λ i. record { source = parts i; pin = refs i }) (λ e. (ap (λ z. z.source) e, ap (λ z. z.pin) e))
    (tells_and (tells_part x.source y.source) (tells_pin x.pin y.pin))

pub tells_listed : (xs : List Connection) (x : Connection) → Tells (is_listed xs x) (In xs x)
tells_listed xs x = tells_as (λ h. subst (In xs) (sym h.1.1) h.1.0) (λ i. (x, (i, refl))) (tells_any (same_connection x) (λ y. x ≡ y) (λ y. tells_connection x y) xs)

module _ (c : Circuit) where
  as_connection : Source → Pin → Connection
  as_connection s p = record { source = s.part; pin = p.ref }

  fed_pins : Source → List Pin
  fed_pins s = filter (λ p. has (below c.routing.links s.out) p.wire) (pins c.cells)

  with_output : List Source
  with_output = filter (λ s. has c.routing.outputs s.out) (sources c.cells)

  of_source : Source → List Connection
  of_source s = map (as_connection s) (fed_pins s)

  connections_from : (x : Connection) → In (flat_map of_source with_output) x → IsConnection c x
  unfolding of_source fed_pins with_output as_connection
  connections_from x i =
      let r = of_flat_map of_source with_output x i in
      let s = (filtered (λ s. has c.routing.outputs s.out) (λ s. In c.routing.outputs s.out) (sources c.cells) (λ s i. tells_has c.routing.outputs s.out) r.0).0 r.1.0 in
      let m = of_map (as_connection r.0) (fed_pins r.0) x r.1.1 in
      let p = (filtered (λ p. has (below c.routing.links r.0.out) p.wire) _ (pins c.cells) (λ p i. tells_below c.routing.links r.0.out p.wire) m.0).0 m.1.0 in
      record {
        source = r.0;
        pin = m.0;
        connects = record { source = s.0; pin = p.0; feeds = record { output = s.1; reach = p.1 } };
        from = ap (λ z. z.source) m.1.1;
        to = ap (λ z. z.pin) m.1.1;
      }

  connections_to : (x : Connection) → IsConnection c x → In (flat_map of_source with_output) x
  unfolding of_source fed_pins with_output as_connection
  connections_to x h =
      let s = (filtered (λ s. has c.routing.outputs s.out) (λ s. In c.routing.outputs s.out) (sources c.cells) (λ s i. tells_has c.routing.outputs s.out) h.source).1 (h.connects.source, h.connects.feeds.output) in
      let p = (filtered (λ p. has (below c.routing.links h.source.out) p.wire) _ (pins c.cells) (λ p i. tells_below c.routing.links h.source.out p.wire) h.pin).1 (h.connects.pin, h.connects.feeds.reach) in
      let from = h.from in
      let to = h.to in
      subst (In (flat_map of_source with_output)) (λ i. record { source = from i; pin = to i }) (in_flat_map of_source with_output h.source (as_connection h.source h.pin) s (in_map (as_connection h.source) (fed_pins h.source) h.pin p))

  pub connections_law : (x : Connection) → In (connections c) x ↔ IsConnection c x
  unfolding of_source fed_pins with_output as_connection
  connections_law x = (connections_from x, connections_to x)
