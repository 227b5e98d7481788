-- What can be computed of a small design: its connections, and that a mux is plain.
use Rattle.std.proofs.Common.{◌≡◌, ℕ, Bool, true, false, List, map, filter, flat_map, not, inl, inr, sym, ap, subst, ◌∙◌, eq-eqb}
use Rattle.std.specs.Str.{bytes_eq}
use Rattle.std.proofs.lemmas.Slice.Eq.{bytes_eq-Decides}
use Rattle.std.specs.Prelude.{◌==◌, ◌&&◌, ◌||◌}
use Rattle.std.specs.List.{list_all, list_any}
use Rattle.std.proofs.lemmas.Bool.{false≢true, and_parts, and_from, or_cases, eqb-true}
use Rattle.words.specs.Members.{In}
use Rattle.patterns.specs.Bits.{DeviceBit, Bits, same_bit}
use Rattle.patterns.specs.Fits.{has_plain_bit}
use Rattle.records.specs.Config.{Config}
use Rattle.links.specs.Links.{Routing, Feeds}
use Rattle.links.proofs.Members.{in_map, of_map, in_flat_map, of_flat_map}
use Rattle.links.proofs.Below.{below_complete, has_in}
use Rattle.links.specs.Below.{below, has}
use Rattle.fabric.specs.Graph.{GraphArc, Graph}
use Rattle.fabric.specs.MuxBits.{bits_named}
use Rattle.fabric_laws.proofs.Members.{in_filter_from, in_filter_to, all_from, any_from, any_to, imp_from, is_false}
use Rattle.fabric_laws.proofs.SameBits.{same_refl}
use Rattle.fabric_examples.proofs.Tests.{is_feed, feed}
use Rattle.circuit.specs.Parts.{Source, sources}
use Rattle.circuit.specs.Pins.{Pin, pins}
use Rattle.circuit.specs.Circuits.{Circuit, Connection, IsConnection}
use Rattle.repair.specs.Plain.{bits_of_mux, setting_bits, unknown_bits, IsPlain}
use Rattle.repair_laws.proofs.Numbers.{of_mux_bits}

pub feed_is : (r : Routing) (c w : ℕ) → Feeds r c w → is_feed r c w ≡ true
feed_is r c w f = and_from (has r.outputs c) (has (below r.links c) w) (has_in r.outputs c f.output) (has_in (below r.links c) w (below_complete r.links f.reach))

-- the pins that a part connects to, and all connections
abbrev pub connections_from : Circuit → Source → List Connection
connections_from c s = map (λ p. record { source = s.part; pin = p.ref }) (filter (λ p. is_feed c.routing s.out p.wire) (pins c.cells))

abbrev pub connections : Circuit → List Connection
connections c = flat_map (connections_from c) (sources c.cells)

pub listed_connects : (c : Circuit) (x : Connection) → In (connections c) x → IsConnection c x
listed_connects c x i =
    let s = of_flat_map (connections_from c) (sources c.cells) x i in
    let p = of_map (λ p. let made : Connection = record { source = s.0.part; pin = p.ref } in made) (filter (λ p. is_feed c.routing s.0.out p.wire) (pins c.cells)) x s.1.1 in
    let f = in_filter_from (λ p. is_feed c.routing s.0.out p.wire) (pins c.cells) p.0 p.1.0 in
    record {
      source = s.0;
      pin = p.0;
      connects = record { source = s.1.0; pin = f.0; feeds = feed c.routing s.0.out p.0.wire f.1 };
      from = ap (λ y. y.source) p.1.1;
      to = ap (λ y. y.pin) p.1.1;
    }

pub connects_listed : (c : Circuit) (x : Connection) → IsConnection c x → In (connections c) x
connects_listed c x h =
    subst (In (connections c)) (λ i. record { source = h.from i; pin = h.to i })
    (in_flat_map (connections_from c) (sources c.cells) h.source (record { source = h.source.part; pin = h.pin.ref }) h.connects.source
    (in_map (λ p. let made : Connection = record { source = h.source.part; pin = p.ref } in made) (filter (λ p. is_feed c.routing h.source.out p.wire) (pins c.cells)) h.pin
    (in_filter_to (λ p. is_feed c.routing h.source.out p.wire) (pins c.cells) h.pin h.connects.pin (feed_is c.routing h.source.out h.pin.wire h.connects.feeds))))

not_both : (b : Bool) → not b ≡ true → b ≡ true → ⊥
not_both true h e = false≢true h
not_both false h e = false≢true e

-- no device bit stands in both lists
abbrev pub disjoint : List DeviceBit → List DeviceBit → Bool
disjoint bs cs = list_all (λ b. not (list_any (same_bit b) cs)) bs

none_shared : (bs cs : List DeviceBit) → disjoint bs cs ≡ true → (b : DeviceBit) → In bs b → In cs b → ⊥
none_shared bs cs h b i j = not_both (list_any (same_bit b) cs) (all_from (λ b. not (list_any (same_bit b) cs)) bs h b i) (any_to (same_bit b) cs b j (same_refl b))

-- a mux is plain, rule by rule
abbrev pub plain_mux : Graph → Config → ℕ → Bool
plain_mux g config mux =
    list_all (λ a. (a.mux == mux) || disjoint (bits_named a.origin a.arc.bits) (bits_of_mux g mux)) g.arcs
    && (disjoint (bits_of_mux g mux) (setting_bits g) && (disjoint (bits_of_mux g mux) (unknown_bits g config) && list_all (λ a. not (a.mux == mux) || has_plain_bit a.arc.bits) g.arcs))

pub plain : (g : Graph) (config : Config) (mux : ℕ) → plain_mux g config mux ≡ true → IsPlain g config mux
plain g config mux h = record {
  alone = λ b i other j. (let n = of_mux_bits g other b j in
      elim (or_cases (n.arc.mux == mux) (disjoint (bits_named n.arc.origin n.arc.arc.bits) (bits_of_mux g mux)) (all_from alone g.arcs first.0 n.arc n.listed)) [
        | inl e ↦ sym n.of_mux ∙ eqb-true n.arc.mux mux e
        | inr d ↦ absurd (none_shared (bits_named n.arc.origin n.arc.arc.bits) (bits_of_mux g mux) d b n.named i)
      ]);
  no_setting = none_shared (bits_of_mux g mux) (setting_bits g) second.0;
  no_unknown = none_shared (bits_of_mux g mux) (unknown_bits g config) third.0;
  has_plain_bits = λ a i e. imp_from (a.mux == mux) (has_plain_bit a.arc.bits) (all_from marked g.arcs third.1 a i) (eq-eqb a.mux mux e);
}
  where
    alone : GraphArc → Bool
    alone a = (a.mux == mux) || disjoint (bits_named a.origin a.arc.bits) (bits_of_mux g mux)

    marked : GraphArc → Bool
    marked a = not (a.mux == mux) || has_plain_bit a.arc.bits

    first : (list_all alone g.arcs ≡ true) × ((disjoint (bits_of_mux g mux) (setting_bits g) && (disjoint (bits_of_mux g mux) (unknown_bits g config) && list_all marked g.arcs)) ≡ true)
    first = and_parts (list_all alone g.arcs) (disjoint (bits_of_mux g mux) (setting_bits g) && (disjoint (bits_of_mux g mux) (unknown_bits g config) && list_all marked g.arcs)) h

    second : (disjoint (bits_of_mux g mux) (setting_bits g) ≡ true) × ((disjoint (bits_of_mux g mux) (unknown_bits g config) && list_all marked g.arcs) ≡ true)
    second = and_parts (disjoint (bits_of_mux g mux) (setting_bits g)) (disjoint (bits_of_mux g mux) (unknown_bits g config) && list_all marked g.arcs) first.1

    third : (disjoint (bits_of_mux g mux) (unknown_bits g config) ≡ true) × (list_all marked g.arcs ≡ true)
    third = and_parts (disjoint (bits_of_mux g mux) (unknown_bits g config)) (list_all marked g.arcs) second.1

-- each cell output that feeds a pin of a named cell is a part's
abbrev pub feeds_modelled : Circuit → Bool
feeds_modelled c = list_all (λ p. list_all (λ o. not (is_feed c.routing o p.wire) || list_any (λ s. s.out == o) (sources c.cells)) c.routing.outputs) (pins c.cells)

pub modelled : (c : Circuit) → feeds_modelled c ≡ true → (p : Pin) (o : ℕ) → In (pins c.cells) p → Feeds c.routing o p.wire → (s : Source) × (In (sources c.cells) s × (s.out ≡ o))
modelled c h p o i f =
    let outputs = all_from (λ p. list_all (λ o. not (is_feed c.routing o p.wire) || list_any (λ s. s.out == o) (sources c.cells)) c.routing.outputs) (pins c.cells) h p i in
    let test = all_from (λ o. not (is_feed c.routing o p.wire) || list_any (λ s. s.out == o) (sources c.cells)) c.routing.outputs outputs o f.output in
    let s = any_from (λ s. s.out == o) (sources c.cells) (imp_from (is_feed c.routing o p.wire) (list_any (λ s. s.out == o) (sources c.cells)) test (feed_is c.routing o p.wire f)) in
    (s.0, (s.1, eqb-true s.0.out o s.2))

-- a set has none of the bits of a list
pub clear : (image : Bits) (bs : List DeviceBit) → list_all (λ b. not (image b)) bs ≡ true → (b : DeviceBit) → In bs b → image b ≡ false
clear image bs h b i = is_false (image b) (λ e. not_both (image b) (all_from (λ b. not (image b)) bs h b i) e)

-- a name that another test tells apart is another
pub names_differ : (a b : List ℕ) → bytes_eq a b ≡ false → a ≡ b → ⊥
names_differ a b h e = false≢true (sym h ∙ (bytes_eq-Decides a b).1 e)
