-- Which part feeds a wire, as a test; and a routing whose links have different sinks, none of them a cell output.
use Rattle.std.proofs.Common.{◌≡◌, ℕ, Bool, true, not, refl, sym, ap, eqb, ◌&&◌}
use Rattle.std.specs.List.{list_all, list_any}
use Rattle.words.specs.Members.{In}
use Rattle.links.specs.Links.{Link, Routing, Fed, IsClean}
use Rattle.circuit.specs.Parts.{Source, sources}
use Rattle.circuit.specs.Circuits.{Circuit}
use Rattle.links.proofs.Below.{has_in, in_has, below_sound, below_complete}
use Rattle.links.specs.Below.{has, below}
use Rattle.circuit_laws.proofs.Sound.{FeedsFrom}
use Rattle.circuit_examples.proofs.Tests.{and_left, and_right, all_in, any_in, number_is, is_number, distinct, distinct_in, clash}

-- the output of the part reaches the wire
abbrev pub feeds : Circuit → Source → ℕ → Bool
feeds c s w = has (below c.routing.links s.out) w

pub feeds_is : (c : Circuit) → ((s : Source) → In (sources c.cells) s → In c.routing.outputs s.out) → (s : Source) (w : ℕ)
    → In (sources c.cells) s → feeds c s w ≡ true → FeedsFrom c s w
feeds_is c listed s w i e = record { source = i; feeds = record { output = listed s i; reach = below_sound c.routing.links s.out w (in_has (below c.routing.links s.out) w e) } }

pub is_feeds : (c : Circuit) (s : Source) (w : ℕ) → FeedsFrom c s w → feeds c s w ≡ true
is_feeds c s w f = has_in (below c.routing.links s.out) w (below_complete c.routing.links f.feeds.reach)

-- some cell output reaches the wire
abbrev pub fed : Circuit → ℕ → Bool
fed c w = list_any (λ o. has (below c.routing.links o) w) c.routing.outputs

pub fed_is : (c : Circuit) (w : ℕ) → fed c w ≡ true → Fed c.routing w
fed_is c w e =
    let g = any_in (λ o. has (below c.routing.links o) w) c.routing.outputs e in
    (g.0, record { output = g.1.0; reach = below_sound c.routing.links g.0 w (in_has (below c.routing.links g.0) w g.1.1) })

-- the links have different sinks, none of them a cell output
abbrev same_sink : Link → Link → Bool
same_sink l m = eqb l.sink m.sink

abbrev pub tree : Routing → Bool
tree r = distinct same_sink r.links && list_all (λ l. not (has r.outputs l.sink)) r.links

pub tree_clean : (r : Routing) → tree r ≡ true → IsClean r
tree_clean r e =
    let apart = and_left (distinct same_sink r.links) (list_all (λ l. not (has r.outputs l.sink)) r.links) e in
    let free = and_right (distinct same_sink r.links) (list_all (λ l. not (has r.outputs l.sink)) r.links) e in
    record {
      one_driver = λ w x y a b. ap (λ l. l.source) (distinct_in same_sink (λ l m h. is_number m.sink l.sink (sym (number_is l.sink m.sink h))) r.links (record { source = x; sink = w }) (record { source = y; sink = w }) apart a.0 b.0 (is_number w w refl));
      outputs_undriven = λ w x i a. clash (has r.outputs w) (has_in r.outputs w i) (all_in (λ l. not (has r.outputs l.sink)) r.links (record { source = x; sink = w }) free a.0);
    }
