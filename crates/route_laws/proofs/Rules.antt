-- The plain tests of plain muxes and of the five rules are exact.
use Rattle.std.proofs.Common.{◌≡◌, ◌≢◌, ℕ, Bool, true, false, ◌⊎◌, ◌↔◌, inl, inr, List, map, filter, Option, Some, None, refl, sym, ap, subst, ◌∙◌, eq-eqb}
use Rattle.std.specs.Prelude.{flat_map, not, ◌==◌, ◌&&◌, ◌||◌, slice_get}
use Rattle.std.specs.List.{list_any, list_all, enumerate_from}
use Rattle.std.specs.Option.{option_map_or}
use Rattle.std.proofs.lemmas.Bool.{false≢true, and_parts, and_from, eqb-true}
use Rattle.words.specs.Members.{In}
use Rattle.patterns.specs.Bits.{DeviceBit, bits_of_list, flipped}
use Rattle.patterns.specs.Fits.{present, has_plain_bit}
use Rattle.records.specs.Config.{Config}
use Rattle.records.specs.Side.{Domain}
use Rattle.links.specs.Links.{Routing, Drives, Below, Feeds, Fed, IsClean}
use Rattle.links.proofs.Members.{same_number, in_map, of_map, in_flat_map, of_flat_map}
use Rattle.links.proofs.Below.{below_sound, below_complete}
use Rattle.links.proofs.Feeds.{one_feed}
use Rattle.links.specs.Below.{below, has}
use Rattle.fabric.specs.Device.{Device}
use Rattle.fabric.specs.Wires.{Wire}
use Rattle.fabric.specs.Graph.{GraphMux, GraphArc, Graph}
use Rattle.fabric.specs.GraphOf.{IsGraph}
use Rattle.fabric.specs.Links.{arcs_of_mux, is_chosen}
use Rattle.fabric.specs.MuxBits.{bits_named}
use Rattle.fabric_laws.specs.PlainAgree.{same_arc}
use Rattle.fabric_laws.proofs.Chosen.{in_mux_to, in_mux_from}
use Rattle.fabric_laws.proofs.Graphs.{arc_of, one_arc}
use Rattle.fabric_laws.proofs.Numbered.{entry_to, entry_is}
use Rattle.circuit.specs.Parts.{Source, sources}
use Rattle.circuit.specs.Pins.{Pin, pins}
use Rattle.circuit.specs.Circuits.{IsConnection}
use Rattle.circuit.specs.Domains.{HasDomain}
use Rattle.upset.specs.Configured.{Configured, circuit_of}
use Rattle.upset.specs.Safe.{only}
use Rattle.upset_laws.specs.PlainUpset.{OutputsListed, fed_wires, same_domain}
use Rattle.upset_laws.specs.PlainUpset.{FedWires}
use Rattle.repair.specs.Plain.{bits_of_mux, setting_bits, unknown_bits, IsPlain}
use Rattle.repair.specs.Added.{with_arc}
use Rattle.repair.specs.Turns.{Turn, routing}
use Rattle.repair.specs.Usable.{is_on_grid, HasFreeSink, HasOneDriver, OneDriverEachBelow, NoneFedBelow, OwnPinsBelow, IsChosenAlone, FlipsStayWithin}
use Rattle.repair_laws.proofs.Numbers.{in_mux_bits, of_mux_bits}
use Rattle.route_laws.specs.PlainParts.{connections, is_listed}
use Rattle.route_laws.specs.PlainUsable.{is_plain, is_clear, has_free_sink, has_one_driver, one_driver_each, none_fed, own_pins, is_chosen_alone, keeps_domain, flips_stay_within}
use Rattle.route_laws.proofs.Tests.{Tells, tells_as, tells_it, tells_and, tells_not, tells_if, tells_unless, tells_all, tells_all_in, tells_any, filtered, tells_number, tells_has, tells_below, tells_bit, tells_domain}
use Rattle.route_laws.proofs.Parts.{tells_listed, connections_law}

module _ (g : Graph) (config : Config) (mux : ℕ) where
  -- no arc of another mux names a bit of the mux
  abbrev NoneOther : Type 0
  NoneOther = (a : GraphArc) → In g.arcs a → (a.mux ≡ mux → ⊥) → ((b : DeviceBit) × (In (bits_named a.origin a.arc.bits) b × In (bits_of_mux g mux) b)) → ⊥

  same_mux : (a : GraphArc) → (a.mux ≡ mux) ⊎ (a.mux ≢ mux)
  same_mux a = same_number a.mux mux

  alone_from : NoneOther → (b : DeviceBit) → In (bits_of_mux g mux) b → (other : ℕ) → In (bits_of_mux g other) b → other ≡ mux
  alone_from h b i other j = let n = of_mux_bits g other b j in elim (same_mux n.arc) [ inl e ↦ sym n.of_mux ∙ e | inr d ↦ absurd (h n.arc n.listed d (b, (n.named, i))) ]

  alone_to : IsPlain g config mux → NoneOther
  alone_to p a i d h = d (p.alone h.0 h.1.1 a.mux (in_mux_bits g a.mux a h.0 i refl h.1.0))

  pub tells_plain : Tells (is_plain g config mux) (IsPlain g config mux)
  tells_plain = tells_as
      (λ h. record {
        alone = alone_from h.0.0.0;
        no_setting = λ b i s. h.0.0.1 (b, (i, s));
        no_unknown = λ b i u. h.0.1 (b, (i, u));
        has_plain_bits = h.1;
      })
      (λ p. (((alone_to p, (λ h. p.no_setting h.0 h.1.0 h.1.1)), (λ h. p.no_unknown h.0 h.1.0 h.1.1)), p.has_plain_bits))
      (tells_and
      (tells_and
      (tells_and
      (tells_all (λ a. (a.mux == mux) || not (list_any (bits_of_list (bits_of_mux g mux)) (bits_named a.origin a.arc.bits))) _
      (λ a. tells_unless (tells_number a.mux mux) (tells_not (tells_any (bits_of_list (bits_of_mux g mux)) (In (bits_of_mux g mux)) (tells_bit (bits_of_mux g mux)) (bits_named a.origin a.arc.bits)))) g.arcs)
      (tells_not (tells_any (bits_of_list (setting_bits g)) (In (setting_bits g)) (tells_bit (setting_bits g)) (bits_of_mux g mux))))
      (tells_not (tells_any (bits_of_list (unknown_bits g config)) (In (unknown_bits g config)) (tells_bit (unknown_bits g config)) (bits_of_mux g mux))))
      (tells_all (λ a. not (a.mux == mux) || has_plain_bit a.arc.bits) _ (λ a. tells_if (tells_number a.mux mux) (tells_it (has_plain_bit a.arc.bits))) g.arcs))

is_false : (b : Bool) → not b ≡ true → b ≡ false
is_false true h = absurd (false≢true h)
is_false false h = refl

not_true : (b : Bool) → b ≡ false → not b ≡ true
not_true true h = absurd (false≢true (sym h))
not_true false h = refl

tells_false : (b : Bool) → Tells (not b) (b ≡ false)
tells_false b = record { from = is_false b; to = not_true b }

module _ (k : Configured) (config : Config) (a : GraphArc) where
  abbrev pub IsClear : Type 0
  IsClear = (b : DeviceBit) → In (bits_of_mux k.graph a.mux) b → k.image b ≡ false

  pub tells_clear : Tells (is_clear k a) IsClear
  tells_clear = tells_all (λ b. not (k.image b)) _ (λ b. tells_false (k.image b)) (bits_of_mux k.graph a.mux)

  -- the sink's wire is there and on the grid
  abbrev IsPlaced : Option Wire → Type 0
  IsPlaced o = (wire : Wire) × ((o ≡ Some wire) × (is_on_grid k.graph.grid wire ≡ true))

  tells_placed : (o : Option Wire) → Tells (option_map_or (is_on_grid k.graph.grid) o false) (IsPlaced o)
  tells_placed None = record { from = λ h. absurd (false≢true h); to = λ h. absurd (let e : None ≡ Some h.0 = h.1.0 in let no : ⊥ = cc in no) }
  tells_placed (Some w) = record {
    from = λ h. (w, (refl, h));
    to = λ h. (let e : w ≡ h.0 = (let s : Some w ≡ Some h.0 = h.1.0 in cc) in subst (λ x. is_on_grid k.graph.grid x ≡ true) (sym e) h.1.1);
  }

  abbrev IsOneMux : Type 0
  IsOneMux = (number : ℕ) (mux : GraphMux) → slice_get k.graph.muxes number ≡ Some mux → mux.sink ≡ a.sink → number ≡ a.mux

  tells_one_mux : Tells (list_all (λ m. not (m.1.sink == a.sink) || (m.0 == a.mux)) (enumerate_from 0 k.graph.muxes)) IsOneMux
  tells_one_mux = tells_as (λ h number mux e s. h (number, mux) (entry_to k.graph.muxes number mux e) s) (λ h p i s. h p.0 p.1 (entry_is k.graph.muxes p.0 p.1 i) s)
      (tells_all (λ m. not (m.1.sink == a.sink) || (m.0 == a.mux)) _ (λ p. tells_if (tells_number p.1.sink a.sink) (tells_number p.0 a.mux)) (enumerate_from 0 k.graph.muxes))

  -- where no bit of the mux is set, the rest of rule 1
  pub free_sink : IsClear → Tells (has_free_sink k config a) (HasFreeSink k config a)
  free_sink clear = tells_as
      (λ h. record { wire = h.0.0.0.0; named = h.0.0.0.1.0; on_grid = h.0.0.0.1.1; one_mux = h.0.0.1; plain = h.0.1; none_fixed = h.1; clear = clear })
      (λ h. ((((h.wire, (h.named, h.on_grid)), h.one_mux), h.plain), h.none_fixed))
      (tells_and (tells_and (tells_and (tells_placed (slice_get k.graph.wires a.sink)) tells_one_mux) (tells_plain k.graph config a.mux))
      (tells_all (λ l. not (l.sink == a.sink)) _ (λ l. tells_not (tells_number l.sink a.sink)) k.graph.fixed))

module _ (r : Routing) where
  -- the sources of the links into a wire
  abbrev drivers : ℕ → List ℕ
  drivers w = map (λ l. l.source) (filter (λ l. l.sink == w) r.links)

  driver_from : (w x : ℕ) → In (drivers w) x → Drives r x w
  driver_from w x i =
      let m = of_map (λ l. l.source) (filter (λ l. l.sink == w) r.links) x i in
      let f = (filtered (λ l. l.sink == w) _ r.links (λ l j. tells_number l.sink w) m.0).0 m.1.0 in
      let source = m.1.1 in
      let sink = f.1 in
      subst (In r.links) (λ j. record { source = source j; sink = sink j }) f.0

  driver_to : (w x : ℕ) → Drives r x w → In (drivers w) x
  driver_to w x d = in_map (λ l. l.source) (filter (λ l. l.sink == w) r.links) (record { source = x; sink = w })
      ((filtered (λ l. l.sink == w) _ r.links (λ l j. tells_number l.sink w) (record { source = x; sink = w })).1 (d, refl))

  one_from : (w : ℕ) → ((x : ℕ) × (In (drivers w) x × (true ≡ true)))
      × (((x : ℕ) × (In (drivers w) x × ((y : ℕ) × (In (drivers w) y × (x ≡ y → ⊥))))) → ⊥) → HasOneDriver r w
  one_from w h = (
    h.0.0,
    (driver_from w h.0.0 h.0.1.0, λ y d. elim (same_number y h.0.0) [ inl e ↦ e | inr n ↦ absurd (h.1 (y, (driver_to w y d, (h.0.0, (h.0.1.0, n))))) ]),
  )

  one_to : (w : ℕ) → HasOneDriver r w → ((x : ℕ) × (In (drivers w) x × (true ≡ true)))
      × (((x : ℕ) × (In (drivers w) x × ((y : ℕ) × (In (drivers w) y × (x ≡ y → ⊥))))) → ⊥)
  one_to w h = (
    (h.0, (driver_to w h.0 h.1.0, refl)),
    λ t. t.1.1.1.1 (h.1.1 t.0 (driver_from w t.0 t.1.0) ∙ sym (h.1.1 t.1.1.0 (driver_from w t.1.1.0 t.1.1.1.0))),
  )

  tells_one_driver : (w : ℕ) → Tells (has_one_driver r.links w) (HasOneDriver r w)
  tells_one_driver w = tells_as (one_from w) (one_to w)
      (tells_and (tells_any (λ x. true) (λ x. true ≡ true) (λ x. tells_it true) (drivers w))
      (tells_not (tells_any (λ x. list_any (λ y. not (x == y)) (drivers w)) _ (λ x. tells_any (λ y. not (x == y)) _ (λ y. tells_not (tells_number x y)) (drivers w)) (drivers w))))

  -- what is so for all wires below a wire
  pub tells_each_below : (test : ℕ → Bool) (P : ℕ → Type 0) → ((v : ℕ) → Tells (test v) (P v)) → (w : ℕ) → Tells (list_all test (below r.links w)) ((v : ℕ) → Below r w v → P v)
  tells_each_below test P t w = tells_as (λ h v b. h v (below_complete r.links b)) (λ h v i. h v (below_sound r.links w v i)) (tells_all test P t (below r.links w))

  tells_fed : (w : ℕ) → Tells (has (flat_map (below r.links) r.outputs) w) (Fed r w)
  tells_fed w = tells_as
      (λ i. let m = of_flat_map (below r.links) r.outputs w i in (m.0, record { output = m.1.0; reach = below_sound r.links m.0 w m.1.1 }))
      (λ f. in_flat_map (below r.links) r.outputs f.0 w f.1.output (below_complete r.links f.1.reach))
      (tells_has (flat_map (below r.links) r.outputs) w)

module _ (k : Configured) (a : GraphArc) where
  pub tells_driver_each : Tells (one_driver_each (routing k).links a) (OneDriverEachBelow k a)
  tells_driver_each = tells_each_below (routing k) (λ w. (w == a.sink) || has_one_driver (routing k).links w) _ (λ w. tells_unless (tells_number w a.sink) (tells_one_driver (routing k) w)) a.sink

  pub tells_none_fed : Tells (none_fed (routing k).links k.graph.outputs a) (NoneFedBelow k a)
  tells_none_fed = tells_as
      (λ h. record { unfed = λ w b. (h w b).0; no_output = λ w b. (h w b).1 })
      (λ h w b. (h.unfed w b, h.no_output w b))
      (tells_each_below (routing k) (λ w. not (has (flat_map (below (routing k).links) k.graph.outputs) w) && not (has k.graph.outputs w)) _
      (λ w. tells_and (tells_not (tells_fed (routing k) w)) (tells_not (tells_has k.graph.outputs w))) a.sink)

module _ (t : Turn) (a : GraphArc) where
  -- the pins below the sink
  abbrev below_pins : List Pin
  below_pins = filter (λ p. has (below (routing t.now).links a.sink) p.wire) (pins t.now.cells)

  listed_below : (p : Pin) → In below_pins p ↔ (In (pins t.now.cells) p × Below (routing t.now) a.sink p.wire)
  listed_below p = filtered (λ p. has (below (routing t.now).links a.sink) p.wire) _ (pins t.now.cells) (λ p i. tells_below (routing t.now).links a.sink p.wire) p

  IsOwn : Pin → Type 0
  IsOwn p = IsConnection t.read (record { source = t.net.part; pin = p.ref })

  own_from : ((p : Pin) → In below_pins p → IsOwn p) → OwnPinsBelow t a
  unfolding IsOwn
  own_from h w b p i e = h p ((listed_below p).1 (i, subst (Below (routing t.now) a.sink) (sym e) b))

  own_to : OwnPinsBelow t a → (p : Pin) → In below_pins p → IsOwn p
  unfolding IsOwn
  own_to h p i = let l = (listed_below p).0 i in h p.wire l.1 p l.0 refl

  tells_own : (p : Pin) → Tells (is_listed (connections t.read) (record { source = t.net.part; pin = p.ref })) (IsOwn p)
  unfolding IsOwn
  tells_own p = let law = connections_law t.read (record { source = t.net.part; pin = p.ref }) in
      tells_as law.0 law.1 (tells_listed (connections t.read) (record { source = t.net.part; pin = p.ref }))

  pub tells_own_pins : Tells (own_pins t a) (OwnPinsBelow t a)
  tells_own_pins = tells_as own_from own_to (tells_all (λ p. is_listed (connections t.read) (record { source = t.net.part; pin = p.ref })) IsOwn tells_own below_pins)

module _ (device : Device) (k : Configured) (graph : IsGraph device k.graph) (a : GraphArc) (listed : In k.graph.arcs a) where
  same_from : (b : GraphArc) → In k.graph.arcs b → same_arc b a ≡ true → b ≡ a
  same_from b i h =
      let parts = and_parts (b.mux == a.mux) (b.place == a.place) h in
      one_arc device k.graph.wires a b (arc_of device k.graph.wires a ((graph.arcs.members a).0 listed)) (arc_of device k.graph.wires b ((graph.arcs.members b).0 i))
      (record { mux = sym (eqb-true b.mux a.mux parts.0); place = sym (eqb-true b.place a.place parts.1) })

  tells_same : (b : GraphArc) → In k.graph.arcs b → Tells (same_arc b a) (b ≡ a)
  tells_same b i = record { from = same_from b i; to = λ e. subst (λ x. same_arc x a ≡ true) (sym e) (and_from (a.mux == a.mux) (a.place == a.place) (eq-eqb a.mux a.mux refl) (eq-eqb a.place a.place refl)) }

  pub tells_chosen_alone : Tells (is_chosen_alone k a) (IsChosenAlone k a)
  tells_chosen_alone = tells_as
      (λ h. record { chosen = h.0; alone = λ other i m. h.1 other (in_mux_to k.graph a.mux other i m) })
      (λ h. (h.chosen, λ other i. let m = in_mux_from k.graph a.mux other i in h.alone other m.0 m.1))
      (tells_and (tells_it (is_chosen k.graph (with_arc k.image a) a))
      (tells_all_in (λ other. not (is_chosen k.graph (with_arc k.image a) other) || same_arc other a) (λ other. is_chosen k.graph (with_arc k.image a) other ≡ true → other ≡ a) (arcs_of_mux k.graph a.mux)
      (λ other i. tells_if (tells_it (is_chosen k.graph (with_arc k.image a) other)) (tells_same other (in_mux_from k.graph a.mux other i).0))))

-- what the tests of domains ask for
pub record IsToldBy (device : Device) (k : Configured) : Type 0 where
  pub graph : IsGraph device k.graph
  pub clean : IsClean (routing k)
  pub outputs : OutputsListed k

module _ (device : Device) (k : Configured) (p : IsToldBy device k) where
  as_fed : Source → FedWires
  as_fed s = record { domain = s.domain; wires = below (routing k).links s.out }

  domain_from : (f : FedWires) (w : ℕ) → In (fed_wires k) f → In f.wires w → HasDomain (circuit_of k) w f.domain
  unfolding as_fed
  domain_from f w i h =
      let r = of_map as_fed (sources k.cells) f i in
      let there = subst (λ x. In x.wires w) (sym r.1.1) h in
      let feeds : Feeds (routing k) r.0.out w = record { output = p.outputs r.0 r.1.0; reach = below_sound (routing k).links r.0.out w there } in
      record { source = r.0; listed = r.1.0; feeds = feeds; only = λ o g. one_feed (routing k) p.clean o r.0.out w g feeds; domain = ap (λ x. x.domain) r.1.1 }

  domain_to : (w : ℕ) (d : Domain) → HasDomain (circuit_of k) w d → (f : FedWires) × (In (fed_wires k) f × (In f.wires w × (f.domain ≡ d)))
  unfolding as_fed
  domain_to w d h = (as_fed h.source, (in_map as_fed (sources k.cells) h.source h.listed, (below_complete (routing k).links h.feeds.reach, h.domain)))

  -- a wire has no domain but this
  tells_keeps : (d : Domain) (w : ℕ) → Tells (keeps_domain (fed_wires k) d w) ((e : Domain) → HasDomain (circuit_of k) w e → e ≡ d)
  tells_keeps d w = tells_as
      (λ h e has. let f = domain_to w e has in sym f.1.1.1 ∙ h f.0 f.1.0 f.1.1.0)
      (λ h f i j. h f.domain (domain_from f w i j))
      (tells_all (λ f. not (has f.wires w) || same_domain f.domain d) _ (λ f. tells_if (tells_has f.wires w) (tells_domain f.domain d)) (fed_wires k))

module _ (device : Device) (t : Turn) (p : IsToldBy device t.now) (a : GraphArc) where
  pub tells_flips : Tells (flips_stay_within t.now (fed_wires t.now) t.net.domain a) (FlipsStayWithin t a)
  tells_flips = tells_as
      (λ h b i other j m e. h b i other (in_mux_to t.now.graph a.mux other j m) e)
      (λ h b i other j e. let m = in_mux_from t.now.graph a.mux other j in h b i other m.0 m.1 e)
      (tells_all (λ b. list_all (λ other. not (present (flipped (only b) (with_arc t.now.image a)) other.origin other.arc.bits) || keeps_domain (fed_wires t.now) t.net.domain other.source) (arcs_of_mux t.now.graph a.mux)) _
      (λ b. tells_all (λ other. not (present (flipped (only b) (with_arc t.now.image a)) other.origin other.arc.bits) || keeps_domain (fed_wires t.now) t.net.domain other.source) _
      (λ other. tells_if (tells_it (present (flipped (only b) (with_arc t.now.image a)) other.origin other.arc.bits)) (tells_keeps device t.now p t.net.domain other.source))
      (arcs_of_mux t.now.graph a.mux)) (bits_of_mux t.now.graph a.mux))
