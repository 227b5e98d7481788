-- Whether an arc is usable can be decided, rule by rule.
use Rattle.std.proofs.Common.{◌≡◌, ◌≢◌, ℕ, Bool, true, false, inl, inr, List, [], ◌∷◌, map, Option, Some, None, refl, sym, ap, subst, ◌∙◌}
use Rattle.std.specs.Prelude.{slice_get}
use Rattle.std.specs.List.{enumerate_from}
use Rattle.words.specs.Members.{In}
use Rattle.words.proofs.Decided.{Decided, both, either, never, decided_by, is_true, some_in, some}
use Rattle.patterns.specs.Bits.{DeviceBit, Bits, flipped}
use Rattle.patterns.specs.Fits.{present, has_plain_bit}
use Rattle.records.specs.Config.{Config}
use Rattle.records.specs.Side.{Domain, D0, D1, D2}
use Rattle.links.specs.Links.{Link, Routing, Drives, Below, Feeds, Fed}
use Rattle.links.proofs.Members.{any_of, is_in, same_number, in_map, in_flat_map}
use Rattle.links.proofs.Below.{below_sound, below_complete, is_below}
use Rattle.links.proofs.Feeds.{is_output, is_fed}
use Rattle.links.specs.Below.{below}
use Rattle.fabric.specs.Wires.{Wire}
use Rattle.fabric.specs.Graph.{GraphMux, GraphArc, Graph}
use Rattle.fabric.specs.Links.{is_chosen}
use Rattle.fabric.specs.MuxBits.{bits_named, mux_bits, is_mux_bit}
use Rattle.fabric_laws.proofs.Numbered.{entry_to, entry_is}
use Rattle.fabric_laws.proofs.Chosen.{mux_bits_law}
use Rattle.circuit.specs.Parts.{sources}
use Rattle.circuit.specs.Pins.{Pin, pins}
use Rattle.circuit.specs.Triples.{Member, members, LiesIn}
use Rattle.circuit.specs.Circuits.{Circuit, Connection, IsConnection}
use Rattle.circuit.specs.Domains.{HasDomain}
use Rattle.upset.specs.Configured.{Configured, circuit_of}
use Rattle.upset.specs.Effect.{IsDisturbed, touched_names, IsTouched}
use Rattle.upset.specs.Safe.{FlipsHave, only}
use Rattle.upset_laws.proofs.Decide.{is_disturbed, effect_list}
use Rattle.repair.specs.Plain.{bits_of_mux, setting_bits, unknown_bits, IsPlain}
use Rattle.repair.specs.Added.{with_arc}
use Rattle.repair.specs.Turns.{Turn, routing}
use Rattle.repair.specs.Usable.{is_on_grid, HasFreeSink, HasOneDriver, OneDriverEachBelow, NoneFedBelow, OwnPinsBelow, IsChosenAlone, FlipsStayWithin, NoneForeignDisturbsBelow, IsRoutable, IsUsable}
use Rattle.repair_laws.proofs.Patterns.{is_named}
use Rattle.repair_laws.proofs.Numbers.{in_mux_bits, of_mux_bits}
use Rattle.route_laws.proofs.Same.{Told, domains, names, arcs, parts, pin_refs}

-- all elements of a list have a property
pub all_in : {X : Type 0} (P : X → Type 0) → ((x : X) → Decided (P x)) → (xs : List X) → Decided ((x : X) → In xs x → P x)
all_in P test xs = elim (any_of (λ x. P x → ⊥) (λ x. never (test x)) xs) [
  | inl r ↦ inr (λ all. r.1.1 (all r.0 r.1.0))
  | inr none ↦ inl (λ x i. elim (test x) [ inl p ↦ p | inr n ↦ absurd (none x i n) ])
]

-- from a property to another
pub if_then : {P Q : Type 0} → Decided P → Decided Q → Decided (P → Q)
if_then p (inl q) = inl (λ h. q)
if_then (inl p) (inr n) = inr (λ f. n (f p))
if_then (inr m) (inr n) = inl (λ p. absurd (m p))

-- all domains
each_domain : (P : Domain → Type 0) → ((d : Domain) → Decided (P d)) → Decided ((d : Domain) → P d)
each_domain P test = decided_by (λ h d. h d (each d)) (λ h d i. h d) (all_in P test (D0 ∷ D1 ∷ D2 ∷ []))
  where
    each : (d : Domain) → In (D0 ∷ D1 ∷ D2 ∷ []) d
    each D0 = inl refl
    each D1 = inr (inl refl)
    each D2 = inr (inr (inl refl))

module _ (r : Routing) where
  -- all wires below a wire
  pub each_below : (w : ℕ) (P : ℕ → Type 0) → ((v : ℕ) → Decided (P v)) → Decided ((v : ℕ) → Below r w v → P v)
  each_below w P test = decided_by (λ h v b. h v (below_complete r.links b)) (λ h v i. h v (below_sound r.links w v i)) (all_in P test (below r.links w))

  pub is_driven : (x w : ℕ) → Decided (Drives r x w)
  is_driven x w = is_in same_link r.links (record { source = x; sink = w })
    where
      same_link : (a b : Link) → Told a b
      same_link a b = go (same_number a.source b.source) (same_number a.sink b.sink)
        where
          go : Told a.source b.source → Told a.sink b.sink → Told a b
          go (inl p) (inl q) = inl (λ i. record { source = p i; sink = q i })
          go (inl p) (inr n) = inr (λ e. n (ap (λ l. l.sink) e))
          go (inr n) q = inr (λ e. n (ap (λ l. l.source) e))

  source_listed : (x w : ℕ) → Drives r x w → In (map (λ l. l.source) r.links) x
  source_listed x w i = in_map (λ l. l.source) r.links (record { source = x; sink = w }) i

  pub has_one_driver : (w : ℕ) → Decided (HasOneDriver r w)
  has_one_driver w = some (λ x. Drives r x w × ((y : ℕ) → Drives r y w → y ≡ x)) (λ x. both (is_driven x w) (alone x)) (map (λ l. l.source) r.links) (λ x h. source_listed x w h.0)
    where
      alone : (x : ℕ) → Decided ((y : ℕ) → Drives r y w → y ≡ x)
      alone x = decided_by (λ h y d. h y (source_listed y w d) d) (λ h y i d. h y d) (all_in (λ y. Drives r y w → y ≡ x) (λ y. if_then (is_driven y w) (same_number y x)) (map (λ l. l.source) r.links))

  pub is_feed : (c w : ℕ) → Decided (Feeds r c w)
  is_feed c w = decided_by (λ h. record { output = h.0; reach = h.1 }) (λ h. (h.output, h.reach)) (both (is_output r c) (is_below r c w))

module _ (c : Circuit) where
  pub has_domain : (w : ℕ) (d : Domain) → Decided (HasDomain c w d)
  has_domain w d = decided_by
      (λ h. record { source = h.0; listed = h.1.0; feeds = h.1.1.0; only = h.1.1.1.0; domain = h.1.1.1.1 })
      (λ h. (h.source, (h.listed, (h.feeds, (h.only, h.domain)))))
      (some_in (λ s. Feeds c.routing s.out w × (((o : ℕ) → Feeds c.routing o w → o ≡ s.out) × (s.domain ≡ d)))
      (λ s. both (is_feed c.routing s.out w) (both (alone s.out) (domains s.domain d))) (sources c.cells))
    where
      alone : (x : ℕ) → Decided ((o : ℕ) → Feeds c.routing o w → o ≡ x)
      alone x = decided_by (λ h o f. h o f.output f) (λ h o i f. h o f) (all_in (λ o. Feeds c.routing o w → o ≡ x) (λ o. if_then (is_feed c.routing o w) (same_number o x)) c.routing.outputs)

  pub is_connection : (x : Connection) → Decided (IsConnection c x)
  is_connection x = decided_by
      (λ h. record { source = h.0; pin = h.1.1.0; connects = record { source = h.1.0; pin = h.1.1.1.0; feeds = h.1.1.1.1.0 }; from = h.1.1.1.1.1.0; to = h.1.1.1.1.1.1 })
      (λ h. (h.source, (h.connects.source, (h.pin, (h.connects.pin, (h.connects.feeds, (h.from, h.to)))))))
      (some_in (λ s. (p : Pin) × (In (pins c.cells) p × (Feeds c.routing s.out p.wire × ((s.part ≡ x.source) × (p.ref ≡ x.pin)))))
      (λ s. some_in (λ p. Feeds c.routing s.out p.wire × ((s.part ≡ x.source) × (p.ref ≡ x.pin))) (λ p. both (is_feed c.routing s.out p.wire) (both (parts s.part x.source) (pin_refs p.ref x.pin))) (pins c.cells))
      (sources c.cells))

  same_member : (a b : Member) → Told a b
  same_member a b = go (names a.name b.name) (domains a.domain b.domain)
    where
      go : Told a.name b.name → Told a.domain b.domain → Told a b
      go (inl p) (inl q) = inl (λ i. record { name = p i; domain = q i })
      go (inl p) (inr n) = inr (λ e. n (ap (λ m. m.domain) e))
      go (inr n) q = inr (λ e. n (ap (λ m. m.name) e))

  lies_in : (name : List ℕ) (d : Domain) → Decided (LiesIn c.cells name d)
  lies_in name d = is_in same_member (members c.cells) (record { name = name; domain = d })

pub flips_have : (k : Configured) (flips : Bits) (d : Domain) → Decided (FlipsHave k flips d)
flips_have k flips d = either wires cells
  where
    wires : Decided ((w : ℕ) × (IsDisturbed k flips w × HasDomain (circuit_of k) w d))
    wires = some (λ w. IsDisturbed k flips w × HasDomain (circuit_of k) w d) (λ w. both (is_disturbed k flips w) (has_domain (circuit_of k) w d)) (effect_list k flips).0.disturbed
        (λ w h. ((effect_list k flips).1.disturbed w).1 h.0)

    cells : Decided ((name : List ℕ) × (IsTouched k flips name × LiesIn k.cells name d))
    cells = some_in (λ name. LiesIn k.cells name d) (λ name. lies_in (circuit_of k) name d) (touched_names k.cells flips)

module _ (g : Graph) (config : Config) (mux : ℕ) where
  -- arcs that name a bit of the mux are of the mux
  alone_by : ((a : GraphArc) → In g.arcs a → (b : DeviceBit) → In (bits_named a.origin a.arc.bits) b → In (bits_of_mux g mux) b → a.mux ≡ mux)
      → (b : DeviceBit) → In (bits_of_mux g mux) b → (other : ℕ) → In (bits_of_mux g other) b → other ≡ mux
  alone_by h b i other j = let n = of_mux_bits g other b j in sym n.of_mux ∙ h n.arc n.listed b n.named i

  pub is_plain : Decided (IsPlain g config mux)
  is_plain = decided_by
      (λ h. record { alone = alone_by h.0; no_setting = h.1.0; no_unknown = h.1.1.0; has_plain_bits = h.1.1.1 })
      (λ p. ((λ a i b n m. p.alone b m a.mux (in_mux_bits g a.mux a b i refl n)), (p.no_setting, (p.no_unknown, p.has_plain_bits))))
      (both (all_in (λ a. (b : DeviceBit) → In (bits_named a.origin a.arc.bits) b → In (bits_of_mux g mux) b → a.mux ≡ mux)
      (λ a. all_in (λ b. In (bits_of_mux g mux) b → a.mux ≡ mux) (λ b. if_then (is_named (bits_of_mux g mux) b) (same_number a.mux mux)) (bits_named a.origin a.arc.bits)) g.arcs)
      (both (all_in (λ b. In (setting_bits g) b → ⊥) (λ b. never (is_named (setting_bits g) b)) (bits_of_mux g mux))
      (both (all_in (λ b. In (unknown_bits g config) b → ⊥) (λ b. never (is_named (unknown_bits g config) b)) (bits_of_mux g mux))
      (all_in (λ a. a.mux ≡ mux → has_plain_bit a.arc.bits ≡ true) (λ a. if_then (same_number a.mux mux) (is_true (has_plain_bit a.arc.bits))) g.arcs))))

module _ (k : Configured) (config : Config) (a : GraphArc) where
  -- the sink's wire is there and on the grid
  IsPlaced : Type 0
  IsPlaced = (wire : Wire) × ((slice_get k.graph.wires a.sink ≡ Some wire) × (is_on_grid k.graph.grid wire ≡ true))

  is_placed : Decided IsPlaced
  unfolding IsPlaced
  is_placed = by (slice_get k.graph.wires a.sink) refl
    where
      by : (o : Option Wire) → slice_get k.graph.wires a.sink ≡ o → Decided IsPlaced
      by None e = inr (λ h. let bad : None ≡ Some h.0 = sym e ∙ h.1.0 in let no : ⊥ = cc in no)
      by (Some wire) e = decided_by (λ h. (wire, (e, h)))
          (λ h. subst (λ w. is_on_grid k.graph.grid w ≡ true) (let s : Some h.0 ≡ Some wire = sym h.1.0 ∙ e in let t : h.0 ≡ wire = cc in t) h.1.1) (is_true (is_on_grid k.graph.grid wire))

  IsOneMux : Type 0
  IsOneMux = (number : ℕ) (mux : GraphMux) → slice_get k.graph.muxes number ≡ Some mux → mux.sink ≡ a.sink → number ≡ a.mux

  is_one_mux : Decided IsOneMux
  unfolding IsOneMux
  is_one_mux = decided_by (λ h number mux e s. h (number, mux) (entry_to k.graph.muxes number mux e) s) (λ h p i s. h p.0 p.1 (entry_is k.graph.muxes p.0 p.1 i) s)
      (all_in (λ p. p.1.sink ≡ a.sink → p.0 ≡ a.mux) (λ p. if_then (same_number p.1.sink a.sink) (same_number p.0 a.mux)) (enumerate_from 0 k.graph.muxes))

  has_free_sink : Decided (HasFreeSink k config a)
  unfolding IsPlaced IsOneMux
  has_free_sink = decided_by
      (λ h. record { wire = h.0.0; named = h.0.1.0; on_grid = h.0.1.1; one_mux = h.1.0; plain = h.1.1.0; none_fixed = h.1.1.1.0; clear = h.1.1.1.1 })
      (λ h. ((h.wire, (h.named, h.on_grid)), (h.one_mux, (h.plain, (h.none_fixed, h.clear)))))
      (both is_placed (both is_one_mux (both (is_plain k.graph config a.mux)
      (both (all_in (λ l. l.sink ≢ a.sink) (λ l. never (same_number l.sink a.sink)) k.graph.fixed)
      (all_in (λ b. k.image b ≡ false) (λ b. is_false_bit (k.image b)) (bits_of_mux k.graph a.mux))))))
    where
      is_false_bit : (b : Bool) → Decided (b ≡ false)
      is_false_bit true = inr (λ e. let no : ⊥ = cc in no)
      is_false_bit false = inl refl

  one_driver_each : Decided (OneDriverEachBelow k a)
  one_driver_each = each_below (routing k) a.sink (λ w. w ≢ a.sink → HasOneDriver (routing k) w) (λ w. if_then (never (same_number w a.sink)) (has_one_driver (routing k) w))

  none_fed_below : Decided (NoneFedBelow k a)
  none_fed_below = decided_by (λ h. record { unfed = h.0; no_output = h.1 }) (λ h. (h.unfed, h.no_output))
      (both (each_below (routing k) a.sink (λ w. Fed (routing k) w → ⊥) (λ w. never (is_fed (routing k) w)))
      (each_below (routing k) a.sink (λ w. In k.graph.outputs w → ⊥) (λ w. never (is_output (routing k) w))))

  chosen_alone : Decided (IsChosenAlone k a)
  chosen_alone = decided_by (λ h. record { chosen = h.0; alone = h.1 }) (λ h. (h.chosen, h.alone))
      (both (is_true (is_chosen k.graph (with_arc k.image a) a))
      (all_in (λ other. other.mux ≡ a.mux → is_chosen k.graph (with_arc k.image a) other ≡ true → other ≡ a)
      (λ other. if_then (same_number other.mux a.mux) (if_then (is_true (is_chosen k.graph (with_arc k.image a) other)) (arcs other a))) k.graph.arcs))

  pub is_routable : Decided (IsRoutable k config a)
  is_routable = decided_by
      (λ h. record { listed = h.0; free_sink = h.1.0; one_driver = h.1.1.0; none_fed = h.1.1.1.0; chosen = h.1.1.1.1 })
      (λ h. (h.listed, (h.free_sink, (h.one_driver, (h.none_fed, h.chosen)))))
      (both (is_in arcs k.graph.arcs a) (both has_free_sink (both one_driver_each (both none_fed_below chosen_alone))))

module _ (t : Turn) (a : GraphArc) where
  own_pins : Decided (OwnPinsBelow t a)
  own_pins = each_below (routing t.now) a.sink (λ w. (p : Pin) → In (pins t.now.cells) p → p.wire ≡ w → IsConnection t.read (record { source = t.net.part; pin = p.ref }))
      (λ w. all_in (λ p. p.wire ≡ w → IsConnection t.read (record { source = t.net.part; pin = p.ref }))
      (λ p. if_then (same_number p.wire w) (is_connection t.read (record { source = t.net.part; pin = p.ref }))) (pins t.now.cells))

  flips_within : Decided (FlipsStayWithin t a)
  flips_within = all_in
      (λ b. (other : GraphArc) → In t.now.graph.arcs other → other.mux ≡ a.mux → present (flipped (only b) (with_arc t.now.image a)) other.origin other.arc.bits ≡ true
      → (d : Domain) → HasDomain (circuit_of t.now) other.source d → d ≡ t.net.domain)
      (λ b. all_in
      (λ other. other.mux ≡ a.mux → present (flipped (only b) (with_arc t.now.image a)) other.origin other.arc.bits ≡ true → (d : Domain) → HasDomain (circuit_of t.now) other.source d → d ≡ t.net.domain)
      (λ other. if_then (same_number other.mux a.mux) (if_then (is_true (present (flipped (only b) (with_arc t.now.image a)) other.origin other.arc.bits))
      (each_domain (λ d. HasDomain (circuit_of t.now) other.source d → d ≡ t.net.domain) (λ d. if_then (has_domain (circuit_of t.now) other.source d) (domains d t.net.domain))))) t.now.graph.arcs)
      (bits_of_mux t.now.graph a.mux)

  none_foreign : Decided (NoneForeignDisturbsBelow t a)
  none_foreign = decided_by (λ h b m. h b (listed b m) m) (λ h b i m. h b m)
      (all_in
      (λ b. is_mux_bit t.now.graph b ≡ true → (w : ℕ) → Below (routing t.now) a.sink w → IsDisturbed t.now (only b) w → (d : Domain) → FlipsHave t.now (only b) d → d ≡ t.net.domain)
      (λ b. if_then (is_true (is_mux_bit t.now.graph b))
      (each_below (routing t.now) a.sink (λ w. IsDisturbed t.now (only b) w → (d : Domain) → FlipsHave t.now (only b) d → d ≡ t.net.domain)
      (λ w. if_then (is_disturbed t.now (only b) w)
      (each_domain (λ d. FlipsHave t.now (only b) d → d ≡ t.net.domain) (λ d. if_then (flips_have t.now (only b) d) (domains d t.net.domain))))))
      (mux_bits t.now.graph))
    where
      listed : (b : DeviceBit) → is_mux_bit t.now.graph b ≡ true → In (mux_bits t.now.graph) b
      listed b m = let r = (mux_bits_law t.now.graph b).0 m in in_flat_map (λ c. bits_named c.origin c.arc.bits) t.now.graph.arcs r.0 b r.1.0 r.1.1

  pub is_usable : Decided (IsUsable t a)
  is_usable = decided_by
      (λ h. record { routable = h.0; own_pins = h.1.0; flips = h.1.1.0; disturbed = h.1.1.1 })
      (λ h. (h.routable, (h.own_pins, (h.flips, h.disturbed))))
      (both (is_routable t.now t.config a) (both own_pins (both flips_within none_foreign)))
