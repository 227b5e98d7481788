-- The bad bits of a design can be listed, each with two domains and a place of each.
use Rattle.std.proofs.Common.{◌≡◌, ◌≢◌, ℕ, true, ◌⊎◌, ◌↔◌, inl, inr, List, [], ◌∷◌, map, filter_map, option_map, refl, sym, ap, subst, ◌∙◌}
use Rattle.std.specs.Prelude.{slice_get}
use Rattle.std.specs.declared.cmp.Ordering.TheVariants.{Equal}
use Rattle.std.specs.Ordering.{nat_cmp, ordering_then}
use Rattle.std.specs.Cmp.{IsTotalOrder, nat_cmp_total, on_total, then_total}
use Rattle.std.specs.Cmp.Lexicographic.{nat_list_cmp_total}
use Rattle.words.specs.Members.{In}
use Rattle.patterns.specs.Bits.{DeviceBit, Bits}
use Rattle.records.specs.Database.{Fixed}
use Rattle.records.specs.Grid.{Tile}
use Rattle.records.specs.Side.{Domain, D0, D1, D2}
use Rattle.links.specs.Links.{Link, Reaches, here, onto, Below, Feeds}
use Rattle.links.proofs.Members.{in_map, of_map, of_flat_map, is_in}
use Rattle.fabric.specs.Wires.{name_cmp}
use Rattle.fabric.specs.Device.{Device, fixed_at}
use Rattle.fabric.specs.Graph.{GraphArc, Graph}
use Rattle.fabric.specs.GraphOf.{number_in, link_in, IsGraph}
use Rattle.fabric.specs.InOrder.{IsRising}
use Rattle.fabric.specs.Links.{links_of, routing_of}
use Rattle.fabric.specs.MuxBits.{bit_cmp, mux_bits, is_mux_bit}
use Rattle.fabric_laws.proofs.Chosen.{links_law}
use Rattle.fabric_laws.proofs.Members.{in_filter_map_from}
use Rattle.fabric_laws.proofs.Orders.{first_ties, second_ties}
use Rattle.fabric_laws.proofs.Standing.{stands, arc_stands}
use Rattle.cells_laws.proofs.Options.{mapped_from, then_from}
use Rattle.circuit.specs.Domains.{HasDomain}
use Rattle.circuit.specs.Triples.{members, LiesIn}
use Rattle.upset.specs.Configured.{Configured, circuit_of}
use Rattle.upset.specs.Effect.{IsDisturbed, touched_names, IsTouched}
use Rattle.upset.specs.Safe.{FlipsHave, IsBad, IsSafe, only}
use Rattle.words.proofs.Decided.{Decided, both, never, is_true, chosen}
use Rattle.upset_laws.proofs.Decide.{is_disturbed, effect_list}
use Rattle.route_laws.proofs.Same.{domains, names}
use Rattle.route_laws.proofs.Usable.{has_domain, flips_have}
use Rattle.side_form.specs.SidePrint.{domain_number}
use Rattle.reports.specs.Reports.{Place, AtWire, InCell, BadPlace}
use Rattle.design_checks.specs.Checks.{IsLeast}
use Rattle.design_answers.specs.BadBits.{domain_cmp, DisturbedIn, TouchedIn, IsPlaceOf, at_wire, in_cell, IsBadPlace, AreBadPlaces}
use Rattle.check_laws.proofs.BadPlaces.{is_bad}
use Rattle.check_laws.proofs.Orders.{number_same}
use Rattle.check_laws.proofs.RoutingRules.{HasWire, output_wire}
use Rattle.answer_laws.proofs.Lists.{IsOrderOf, ordered, least_or_none}
use Rattle.answer_laws.proofs.Ripped as ripped
use Rattle.answer_laws.proofs.Told.{told_member}

pub bit_total : IsTotalOrder bit_cmp
bit_total = then_total (on_total (λ b. b.frame) nat_cmp_total) (on_total (λ b. b.bit) nat_cmp_total)

pub bit_ties : (a b : DeviceBit) → bit_cmp a b ≡ Equal → b ≡ a
bit_ties a b e =
    let frames = number_same a.frame b.frame (first_ties (nat_cmp a.frame b.frame) (nat_cmp a.bit b.bit) e) in
    let bits = number_same a.bit b.bit (second_ties (nat_cmp a.frame b.frame) (nat_cmp a.bit b.bit) e) in
    λ i. record { frame = sym frames i; bit = sym bits i }

domain_total : IsTotalOrder domain_cmp
domain_total = on_total domain_number nat_cmp_total

abbrev all_domains : List Domain
all_domains = D0 ∷ D1 ∷ D2 ∷ []

in_domains : (d : Domain) → In all_domains d
in_domains D0 = inl refl
in_domains D1 = inr (inl refl)
in_domains D2 = inr (inr (inl refl))

-- ---- wires that links lead to have names

module _ (device : Device) (g : Graph) (is : IsGraph device g) where
  fixed_sink : (link : Link) → In g.fixed link → HasWire g link.sink
  fixed_sink link i =
      let t = of_flat_map (λ tile. filter_map (link_in g.wires device.profile.rules tile) (fixed_at device tile)) device.grid.tiles link ((is.fixed.members link).0 i) in
      let f = in_filter_map_from (link_in g.wires device.profile.rules t.0) (fixed_at device t.0) link t.1.1 in
      let n = then_from (λ n. option_map (λ source. let l : Link = record { source = source; sink = n } in l) (number_in g.wires device.profile.rules t.0 f.0.source)) (number_in g.wires device.profile.rules t.0 f.0.sink) link f.2 in
      let s = mapped_from (λ source. let l : Link = record { source = source; sink = n.0 } in l) (number_in g.wires device.profile.rules t.0 f.0.source) link n.1.1 in
      let w = stands device g t.0 f.0.sink n.0 n.1.0 in
      subst (λ (l : Link). HasWire g l.sink) s.1.1 (w.wire, w.numbered)

  pub arc_sink : (a : GraphArc) → In g.arcs a → HasWire g a.sink
  arc_sink a i = let s = arc_stands device g is a i in (s.sink.wire, s.sink.numbered)

  module _ (image : Bits) where
    pub link_sink : (link : Link) → In (links_of g image) link → HasWire g link.sink
    link_sink link i = elim ((links_law g image link).0 i) [
      | inl a ↦ subst (λ (l : Link). HasWire g l.sink) a.1.2 (arc_sink a.0 a.1.0)
      | inr j ↦ fixed_sink link j
    ]

    below_wire : (o : ℕ) → In g.outputs o → {w : ℕ} → Below (routing_of g image) o w → HasWire g w
    below_wire o i here = output_wire device g is o i
    below_wire o i (onto {b} {c} q s) = link_sink (record { source = b; sink = c }) s

    pub fed_wire : (o w : ℕ) → Feeds (routing_of g image) o w → HasWire g w
    fed_wire o w f = below_wire o f.output f.reach

-- ---- one bad bit

module _ (device : Device) (k : Configured) (is : IsGraph device k.graph) where
  abbrev SomePlace : Bits → Domain → Type 0
  SomePlace flips d = (p : Place) × IsPlaceOf k flips d p

  wire_of : (flips : Bits) (d : Domain) (w : ℕ) → DisturbedIn k flips d w → HasWire k.graph w
  wire_of flips d w h = fed_wire device k.graph is k.image h.1.source.out w h.1.feeds

  least_wire : (flips : Bits) (d : Domain) → ((w : ℕ) × IsLeast nat_cmp (DisturbedIn k flips d) w) ⊎ ((w : ℕ) → DisturbedIn k flips d w → ⊥)
  least_wire flips d = least_or_none nat_cmp nat_cmp_total (DisturbedIn k flips d) (λ w. both (is_disturbed k flips w) (has_domain (circuit_of k) w d)) (effect_list k flips).0.disturbed
      (λ w h. ((effect_list k flips).1.disturbed w).1 h.0)

  touched_in : (flips : Bits) (d : Domain) (name : List ℕ) → Decided (TouchedIn k flips d name)
  touched_in flips d name = both (is_in names (touched_names k.cells flips) name) (is_in told_member (members k.cells) (record { name = name; domain = d }))

  least_cell : (flips : Bits) (d : Domain) → ((name : List ℕ) × IsLeast name_cmp (TouchedIn k flips d) name) ⊎ ((name : List ℕ) → TouchedIn k flips d name → ⊥)
  least_cell flips d = least_or_none name_cmp nat_list_cmp_total (TouchedIn k flips d) (touched_in flips d) (touched_names k.cells flips) (λ name h. h.0)

  some_place : (flips : Bits) (d : Domain) → FlipsHave k flips d → SomePlace flips d
  some_place flips d h = elim (least_wire flips d) [
    | inl w ↦ (let wire = wire_of flips d w.0 w.1.has in (AtWire wire.0, at_wire w.0 wire.0 w.1 wire.1))
    | inr dry ↦ elim (least_cell flips d) [
      | inl name ↦ (InCell name.0, in_cell name.0 dry name.1)
      | inr none ↦ absurd (elim h [ inl w ↦ dry w.0 w.1 | inr c ↦ none c.0 c.1 ])
    ]
  ]

  -- the least domain of a bit, and the least but one
  least_domain : (flips : Bits) (d : Domain) → FlipsHave k flips d → (e : Domain) × IsLeast domain_cmp (FlipsHave k flips) e
  least_domain flips d h = elim (least_or_none domain_cmp domain_total (FlipsHave k flips) (λ e. flips_have k flips e) all_domains (λ e j. in_domains e)) [ inl l ↦ l | inr n ↦ absurd (n d h) ]

  abbrev Other : Bits → Domain → Domain → Type 0
  Other flips first d = FlipsHave k flips d × (d ≢ first)

  some_other : (flips : Bits) (first : Domain) → IsBad k flips → (d : Domain) × Other flips first d
  some_other flips first bad = elim (domains bad.0 first) [
    | inl e ↦ (bad.1.0, (bad.1.1.1, (λ f. bad.1.1.2 (e ∙ sym f))))
    | inr n ↦ (bad.0, (bad.1.1.0, n))
  ]

  next_domain : (flips : Bits) (first : Domain) → IsBad k flips → (e : Domain) × IsLeast domain_cmp (Other flips first) e
  next_domain flips first bad = elim (least_or_none domain_cmp domain_total (Other flips first) (λ e. both (flips_have k flips e) (never (domains e first))) all_domains (λ e j. in_domains e)) [
    | inl l ↦ l
    | inr n ↦ (let o = some_other flips first bad in absurd (n o.0 o.1))
  ]

  bad_place : (bit : DeviceBit) → is_mux_bit k.graph bit ≡ true → IsBad k (only bit) → (b : BadPlace) × (IsBadPlace k b × (b.bit ≡ bit))
  bad_place bit mux bad =
      let first = least_domain (only bit) bad.0 bad.1.1.0 in
      let second = next_domain (only bit) first.0 bad in
      let first_at = some_place (only bit) first.0 first.1.has in
      let second_at = some_place (only bit) second.0 second.1.has.0 in (
        record { bit = bit; first = first.0; first_at = first_at.0; second = second.0; second_at = second_at.0 },
        (record { mux_bit = mux; first = first.1; second = second.1; first_at = first_at.1; second_at = second_at.1 }, refl),
      )

  -- ---- all of them

  abbrev IsBadBit : DeviceBit → Type 0
  IsBadBit b = (is_mux_bit k.graph b ≡ true) × IsBad k (only b)

  bad_bits : (bits : List DeviceBit) × IsOrderOf bit_cmp IsBadBit bits
  bad_bits = go (chosen IsBadBit (λ b. both (is_true (is_mux_bit k.graph b)) (ripped.is_bad k (only b))) (mux_bits k.graph))
    where
      go : ((bits : List DeviceBit) × ((b : DeviceBit) → In bits b ↔ (In (mux_bits k.graph) b × IsBadBit b))) → (bits : List DeviceBit) × IsOrderOf bit_cmp IsBadBit bits
      go list = ordered bit_cmp bit_total IsBadBit list.0
          (λ b. ((λ i. ((list.1 b).0 i).1), (λ h. (list.1 b).1 (ripped.in_mux_bits k.graph b h.0, h))))
          (λ a b i j e. bit_ties a b e)

  -- a list with an entry for each of some bits
  record Listed (bits : List DeviceBit) (list : List BadPlace) : Type 0 where
    same : map (λ b. b.bit) list ≡ bits
    each : (b : BadPlace) → In list b → IsBadPlace k b

  listed : (bits : List DeviceBit) → ((b : DeviceBit) → In bits b → IsBadBit b) → (list : List BadPlace) × Listed bits list
  listed [] bad = ([], record { same = refl; each = λ b i. absurd i })
  listed (bit ∷ bits) bad =
      let first = bad_place bit (bad bit (inl refl)).0 (bad bit (inl refl)).1 in
      let rest = listed bits (λ b i. bad b (inr i)) in (
        first.0 ∷ rest.0,
        record {
          same = (λ i. first.1.1 i ∷ rest.1.same i);
          each = λ b i. elim i [ inl e ↦ subst (IsBadPlace k) e first.1.0 | inr j ↦ rest.1.each b j ];
        },
      )

  rising_list : (list : List BadPlace) → IsRising bit_cmp (map (λ b. b.bit) list) → IsRising (λ (a : BadPlace) (b : BadPlace). bit_cmp a.bit b.bit) list
  rising_list [] r = tt
  rising_list (b ∷ bs) r = ((λ c i. r.0 c.bit (in_map (λ (d : BadPlace). d.bit) bs c i)), rising_list bs r.1)

  -- the bad places exist
  pub some_bad_places : (list : List BadPlace) × AreBadPlaces k list
  some_bad_places =
      let l = listed bad_bits.0 (λ b i. (bad_bits.1.members b).0 i) in (
        l.0,
        record {
          rising = rising_list l.0 (subst (IsRising bit_cmp) (sym l.1.same) bad_bits.1.rising);
          each = l.1.each;
          all = λ bit mux bad. of_map (λ (b : BadPlace). b.bit) l.0 bit (subst (λ bits. In bits bit) (sym l.1.same) ((bad_bits.1.members bit).1 (mux, bad)));
        },
      )

-- their list is empty just where the image is safe
pub empty_where_safe : (k : Configured) (list : List BadPlace) → AreBadPlaces k list → (list ≡ []) ↔ IsSafe k
empty_where_safe k list are = ((λ e b mux bad. let a = are.all b mux bad in subst (λ l. In l a.0) e a.1.0), none list are)
  where
    none : (list : List BadPlace) → AreBadPlaces k list → IsSafe k → list ≡ []
    none [] are safe = refl
    none (b ∷ bs) are safe = (let is = are.each b (inl refl) in absurd (safe b.bit is.mux_bit (is_bad k b is)))
