-- The plain list of usable arcs is exact.
use Rattle.std.proofs.Common.{◌≡◌, ℕ, Bool, ◌↔◌, inl, inr, List, ◌++◌, filter}
use Rattle.std.specs.Prelude.{not, ◌&&◌}
use Rattle.words.specs.Members.{In}
use Rattle.patterns.specs.Bits.{DeviceBit}
use Rattle.records.specs.Side.{Domain}
use Rattle.links.proofs.Members.{in_left, in_right, in_either, in_flat_map, of_flat_map}
use Rattle.links.proofs.Below.{below_sound, below_complete}
use Rattle.links.specs.Below.{below, has}
use Rattle.fabric.specs.Device.{Device}
use Rattle.fabric.specs.Graph.{GraphArc}
use Rattle.fabric.specs.MuxBits.{mux_bits}
use Rattle.upset.specs.Roots.{IsRoot}
use Rattle.upset.specs.Safe.{FlipsHave, only}
use Rattle.upset_laws.specs.PlainUpset.{hit_wires, short_sources, fed_wires, same_domain, domains_of}
use Rattle.upset_laws.proofs.PlainDomains.{hits_law, shorts_law, domains_listed}
use Rattle.upset_laws.proofs.Roots.{unfed_roots}
use Rattle.repair.specs.Turns.{Turn, routing}
use Rattle.repair.specs.Usable.{HasFreeSink, OneDriverEachBelow, NoneFedBelow, OwnPinsBelow, IsChosenAlone, FlipsStayWithin, NoneForeignDisturbsBelow, IsUsable}
use Rattle.route_laws.specs.PlainUsable.{is_clear, has_free_sink, one_driver_each, none_fed, own_pins, is_chosen_alone, flips_stay_within, is_foreign, foreign_bits, foreign_wires, none_foreign, usable_among}
use Rattle.route_laws.proofs.Tests.{Tells, told, tells_as, tells_and, tells_not, tells_any, filtered, tells_has, tells_bit, tells_domain}
use Rattle.route_laws.proofs.Rules.{IsToldBy, IsClear, tells_clear, free_sink, tells_driver_each, tells_none_fed, tells_own_pins, tells_chosen_alone, tells_flips}

module _ (device : Device) (t : Turn) (p : IsToldBy device t.now) where
  -- a flip has a domain other than the net's
  IsForeign : DeviceBit → Type 0
  IsForeign b = (d : Domain) × (FlipsHave t.now (only b) d × (d ≡ t.net.domain → ⊥))

  tells_foreign : (b : DeviceBit) → Tells (is_foreign t.now (fed_wires t.now) t.net.domain (only b)) (IsForeign b)
  unfolding IsForeign
  tells_foreign b = tells_as
      (λ h. (h.0, ((domains_listed device t.now p.graph p.clean p.outputs (only b) h.0).0 h.1.0, h.1.1)))
      (λ h. (h.0, ((domains_listed device t.now p.graph p.clean p.outputs (only b) h.0).1 h.1.0, h.1.1)))
      (tells_any (λ e. not (same_domain e t.net.domain)) _ (λ e. tells_not (tells_domain e t.net.domain)) (domains_of t.now (fed_wires t.now) (only b)))

  foreign_bit : (b : DeviceBit) → In (foreign_bits t.now (fed_wires t.now) t.net.domain) b ↔ (In (mux_bits t.now.graph) b × IsForeign b)
  foreign_bit b = filtered (λ b. is_foreign t.now (fed_wires t.now) t.net.domain (only b)) IsForeign (mux_bits t.now.graph) (λ x i. tells_foreign x) b

  begins : DeviceBit → List ℕ
  begins b = hit_wires t.now (only b) ++ short_sources t.now (only b)

  root : (b : DeviceBit) (w : ℕ) → In (begins b) w ↔ IsRoot t.now (only b) w
  unfolding begins
  root b w = (
    (λ i. elim (in_either (hit_wires t.now (only b)) (short_sources t.now (only b)) w i) [
      | inl h ↦ inl ((hits_law device t.now p.graph (only b) w).0 h)
      | inr s ↦ inr ((shorts_law device t.now p.graph (only b) w).0 s)
    ]),
    (λ h. elim h [
      | inl hit ↦ in_left (hit_wires t.now (only b)) (short_sources t.now (only b)) w ((hits_law device t.now p.graph (only b) w).1 hit)
      | inr s ↦ in_right (hit_wires t.now (only b)) (short_sources t.now (only b)) w ((shorts_law device t.now p.graph (only b) w).1 s)
    ]),
  )

  -- a foreign flip begins to disturb at a wire
  DisturbsForeign : ℕ → Type 0
  DisturbsForeign w = (b : DeviceBit) × (In (mux_bits t.now.graph) b × (IsForeign b × IsRoot t.now (only b) w))

  tells_begin : (w : ℕ) → Tells (has (foreign_wires t.now (fed_wires t.now) t.net.domain) w) (DisturbsForeign w)
  unfolding DisturbsForeign begins
  tells_begin w = tells_as
      (λ i. let r = of_flat_map begins (foreign_bits t.now (fed_wires t.now) t.net.domain) w i in let b = (foreign_bit r.0).0 r.1.0 in (r.0, (b.0, (b.1, (root r.0 w).0 r.1.1))))
      (λ h. in_flat_map begins (foreign_bits t.now (fed_wires t.now) t.net.domain) h.0 w ((foreign_bit h.0).1 (h.1.0, h.1.1.0)) ((root h.0 w).1 h.1.1.1))
      (tells_has (foreign_wires t.now (fed_wires t.now) t.net.domain) w)

  module _ (a : GraphArc) (unfed : NoneFedBelow t.now a) where
    same_domains : (d e : Domain) → Tells (same_domain d e) (d ≡ e)
    same_domains d e = tells_domain d e

    foreign_from : (((w : ℕ) × (In (below (routing t.now).links a.sink) w × DisturbsForeign w)) → ⊥) → NoneForeignDisturbsBelow t a
    unfolding DisturbsForeign IsForeign
    foreign_from none b m w under disturbed d h = elim (told (same_domain d t.net.domain) (same_domains d t.net.domain)) [
      | inl e ↦ e
      | inr n ↦ absurd (none (w, (below_complete (routing t.now).links under, (b, ((tells_bit (mux_bits t.now.graph) b).from m, ((d, (h, n)), (unfed_roots t.now (only b) w (unfed.unfed w under)).0 disturbed))))))
    ]

    foreign_to : NoneForeignDisturbsBelow t a → ((w : ℕ) × (In (below (routing t.now).links a.sink) w × DisturbsForeign w)) → ⊥
    unfolding DisturbsForeign IsForeign
    foreign_to none h =
        let under = below_sound (routing t.now).links a.sink h.0 h.1.0 in
        let b = h.1.1.0 in
        let foreign = h.1.1.1.1.0 in
        foreign.1.1 (none b ((tells_bit (mux_bits t.now.graph) b).to h.1.1.1.0) h.0 under ((unfed_roots t.now (only b) h.0 (unfed.unfed h.0 under)).1 h.1.1.1.1.1) foreign.0 foreign.1.0)

    pub tells_none_foreign : Tells (none_foreign (routing t.now).links (foreign_wires t.now (fed_wires t.now) t.net.domain) a) (NoneForeignDisturbsBelow t a)
    tells_none_foreign = tells_as foreign_from foreign_to (tells_not (tells_any (has (foreign_wires t.now (fed_wires t.now) t.net.domain)) DisturbsForeign tells_begin (below (routing t.now).links a.sink)))

  module _ (arcs : List GraphArc) (of_graph : (a : GraphArc) → In arcs a → In t.now.graph.arcs a) where
    -- the arcs that are left over, stage by stage
    abbrev clear : List GraphArc
    clear = filter (is_clear t.now) arcs

    abbrev is_free : GraphArc → Bool
    is_free a = none_fed (routing t.now).links t.now.graph.outputs a && one_driver_each (routing t.now).links a && has_free_sink t.now t.config a

    abbrev free : List GraphArc
    free = filter is_free clear

    abbrev is_left : GraphArc → Bool
    is_left a = own_pins t a && is_chosen_alone t.now a && flips_stay_within t.now (fed_wires t.now) t.net.domain a
        && none_foreign (routing t.now).links (foreign_wires t.now (fed_wires t.now) t.net.domain) a

    cleared : (a : GraphArc) → In clear a ↔ (In arcs a × IsClear t.now t.config a)
    cleared a = filtered (is_clear t.now) (λ x. IsClear t.now t.config x) arcs (λ x i. tells_clear t.now t.config x) a

    IsFree : GraphArc → Type 0
    IsFree a = (NoneFedBelow t.now a × OneDriverEachBelow t.now a) × HasFreeSink t.now t.config a

    freed : (a : GraphArc) → In free a ↔ (In clear a × IsFree a)
    unfolding IsFree
    freed a = filtered is_free IsFree clear
        (λ x i. tells_and (tells_and (tells_none_fed t.now x) (tells_driver_each t.now x)) (free_sink t.now t.config x ((cleared x).0 i).1)) a

    IsLeft : GraphArc → Type 0
    IsLeft a = ((OwnPinsBelow t a × IsChosenAlone t.now a) × FlipsStayWithin t a) × NoneForeignDisturbsBelow t a

    left : (a : GraphArc) → In (usable_among t arcs) a ↔ (In free a × IsLeft a)
    unfolding IsLeft IsFree
    left a = filtered is_left IsLeft free
        (λ x i. let f = (freed x).0 i in
        tells_and (tells_and (tells_and (tells_own_pins t x) (tells_chosen_alone device t.now p.graph x (of_graph x ((cleared x).0 f.0).0))) (tells_flips device t p x)) (tells_none_foreign x f.1.0.0)) a

    pub usable_law : (a : GraphArc) → In (usable_among t arcs) a ↔ (In arcs a × IsUsable t a)
    unfolding IsLeft IsFree
    usable_law a = (
      (λ i. let l = (left a).0 i in
          let f = (freed a).0 l.0 in
          let c = (cleared a).0 f.0 in (
            c.0,
            record {
              routable = record { listed = of_graph a c.0; free_sink = f.1.1; one_driver = f.1.0.1; none_fed = f.1.0.0; chosen = l.1.0.0.1 };
              own_pins = l.1.0.0.0;
              flips = l.1.0.1;
              disturbed = l.1.1;
            },
          )),
      (λ h. let u = h.1 in
          (left a).1 (
            (freed a).1 ((cleared a).1 (h.0, u.routable.free_sink.clear), ((u.routable.none_fed, u.routable.one_driver), u.routable.free_sink)),
            (((u.own_pins, u.routable.chosen), u.flips), u.disturbed),
          )),
    )
