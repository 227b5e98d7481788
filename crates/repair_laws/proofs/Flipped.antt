-- The effect of flips with one more usable arc.
use Rattle.std.proofs.Common.{◌≡◌, ◌≢◌, ℕ, Bool, true, false, ◌⊎◌, inl, inr, List, refl, sym, ap, subst, ◌∙◌}
use Rattle.std.specs.Prelude.{if◌then◌else◌, map, filter}
use Rattle.std.specs.List.{list_any}
use Rattle.words.specs.Members.{In}
use Rattle.patterns.specs.Bits.{DeviceBit, Bits, flipped}
use Rattle.patterns.specs.Fits.{present}
use Rattle.records.specs.Side.{Domain}
use Rattle.links.specs.Links.{here, Below, IsClean}
use Rattle.links.proofs.Members.{same_number, in_either, of_map}
use Rattle.fabric.specs.Graph.{GraphArc, Graph}
use Rattle.fabric.specs.Links.{is_chosen}
use Rattle.fabric.specs.MuxBits.{bits_named, is_mux_bit}
use Rattle.circuit.specs.Domains.{HasDomain}
use Rattle.circuit.specs.WellFormed.{OutputsApart}
use Rattle.upset.specs.Configured.{Configured, circuit_of}
use Rattle.upset.specs.After.{is_affected, conducts}
use Rattle.upset.specs.Effect.{After, IsHit, IsShortSource, IsDisturbed, IsTouched}
use Rattle.upset.specs.Safe.{FlipsHave, only, IsSafe}
use Rattle.fabric_laws.proofs.Members.{any_from, any_to, in_filter_from}
use Rattle.fabric_laws.proofs.SameBits.{same_is}
use Rattle.fabric_laws.proofs.Chosen.{arc_links, in_mux_to, in_mux_from}
use Rattle.upset_laws.proofs.Roots.{domain_along}
use Rattle.repair.specs.Plain.{bits_of_mux}
use Rattle.repair.specs.Added.{added}
use Rattle.repair.specs.Turns.{Turn, routing}
use Rattle.repair.specs.Usable.{IsUsable}
use Rattle.repair_laws.specs.Ready.{BitsAreSettings}
use Rattle.repair_laws.proofs.Numbers.{IsNumbered, in_mux_bits, of_mux_bits, mux_bit_named}
use Rattle.repair_laws.proofs.Added.{present_off, chosen_from, chosen_to, into_sink, link_old, link_new}
use Rattle.repair_laws.proofs.Fed.{one_domain, domain_new, clean_new}

-- flips that affect a mux name one of its bits
pub affected_bit : (g : Graph) (flips : Bits) (mux : ℕ) → is_affected g flips mux ≡ true → (b : DeviceBit) × (In (bits_of_mux g mux) b × (flips b ≡ true))
affected_bit g flips mux h =
    let c = any_from (λ a. list_any flips (bits_named a.origin a.arc.bits)) _ h in
    let b = any_from flips (bits_named c.0.origin c.0.arc.bits) c.2 in
    let m = in_mux_from g mux c.0 c.1 in
    (b.0, (in_mux_bits g mux c.0 b.0 m.0 m.1 b.1, b.2))

pub bit_affects : (g : Graph) (flips : Bits) (mux : ℕ) (b : DeviceBit) → In (bits_of_mux g mux) b → flips b ≡ true → is_affected g flips mux ≡ true
bit_affects g flips mux b i h =
    let n = of_mux_bits g mux b i in
    any_to (λ a. list_any flips (bits_named a.origin a.arc.bits)) _ n.arc (in_mux_to g mux n.arc n.listed n.of_mux) (any_to flips (bits_named n.arc.origin n.arc.arc.bits) b n.named h)

-- an arc that conducts after a flip, from a wire to another
pub record ConductsBy (k : Configured) (flips : Bits) (x w : ℕ) : Type 0 where
  pub arc : GraphArc
  pub listed : In k.graph.arcs arc
  pub after : conducts k.graph k.image flips arc ≡ true
  pub from : arc.source ≡ x
  pub to : arc.sink ≡ w

pub after_by : (k : Configured) (flips : Bits) (x w : ℕ) → After k flips x w → ConductsBy k flips x w ⊎ In k.graph.fixed (record { source = x; sink = w })
after_by k flips x w h = elim ((arc_links k.graph (conducts k.graph k.image flips) (record { source = x; sink = w })).0 h) [
  | inl r ↦ inl (record { arc = r.0; listed = r.1.0; after = r.1.1; from = ap (λ l. l.source) r.1.2; to = ap (λ l. l.sink) r.1.2 })
  | inr i ↦ inr i
]

pub by_after : (k : Configured) (flips : Bits) (x w : ℕ) → ConductsBy k flips x w → After k flips x w
by_after k flips x w c =
    let from = c.from in
    let to = c.to in
    (arc_links k.graph (conducts k.graph k.image flips) (record { source = x; sink = w })).1 (inl (c.arc, (c.listed, c.after, λ i. record { source = from i; sink = to i })))

pub fixed_after : (k : Configured) (flips : Bits) (x w : ℕ) → In k.graph.fixed (record { source = x; sink = w }) → After k flips x w
fixed_after k flips x w i = (arc_links k.graph (conducts k.graph k.image flips) (record { source = x; sink = w })).1 (inr i)

-- what conducts in a mux that is affected, and in one that isn't
pub conducts_is : (g : Graph) (image flips : Bits) (c : GraphArc) (t : Bool) → is_affected g flips c.mux ≡ t
    → conducts g image flips c ≡ (if t then present (flipped flips image) c.origin c.arc.bits else is_chosen g image c)
conducts_is g image flips c t e = ap (λ z. if z then present (flipped flips image) c.origin c.arc.bits else is_chosen g image c) e

module _ (t : Turn) (a : GraphArc) (num : IsNumbered t.now.graph) (use_a : IsUsable t a) where
  abbrev later : Configured
  later = added t.now a

  -- flips of none of the mux's bits: nothing new is hit
  module _ (flips : Bits) (apart : is_affected t.now.graph flips a.mux ≡ true → ⊥) where
    conducts_from : (c : GraphArc) → In t.now.graph.arcs c → c.mux ≢ a.mux → conducts t.now.graph later.image flips c ≡ true → conducts t.now.graph t.now.image flips c ≡ true
    conducts_from c i other h = go (is_affected t.now.graph flips c.mux) refl
      where
        go : (b : Bool) → is_affected t.now.graph flips c.mux ≡ b → conducts t.now.graph t.now.image flips c ≡ true
        go true e = conducts_is t.now.graph t.now.image flips c true e
            ∙ (sym (present_off t.now t.config a num use_a.routable flips c i other) ∙ (sym (conducts_is t.now.graph later.image flips c true e) ∙ h))
        go false e = conducts_is t.now.graph t.now.image flips c false e
            ∙ chosen_from t.now t.config a num use_a.routable c i other (sym (conducts_is t.now.graph later.image flips c false e) ∙ h)

    conducts_to : (c : GraphArc) → In t.now.graph.arcs c → c.mux ≢ a.mux → conducts t.now.graph t.now.image flips c ≡ true → conducts t.now.graph later.image flips c ≡ true
    conducts_to c i other h = go (is_affected t.now.graph flips c.mux) refl
      where
        go : (b : Bool) → is_affected t.now.graph flips c.mux ≡ b → conducts t.now.graph later.image flips c ≡ true
        go true e = conducts_is t.now.graph later.image flips c true e
            ∙ (present_off t.now t.config a num use_a.routable flips c i other ∙ (sym (conducts_is t.now.graph t.now.image flips c true e) ∙ h))
        go false e = conducts_is t.now.graph later.image flips c false e
            ∙ chosen_to t.now t.config a num use_a.routable c i other (sym (conducts_is t.now.graph t.now.image flips c false e) ∙ h)

    other_mux : (c : GraphArc) (w : ℕ) → w ≢ a.sink → c.sink ≡ w → In t.now.graph.arcs c → c.mux ≢ a.mux
    other_mux c w other e i s = other (sym e ∙ num.one_sink c a i use_a.routable.listed s)

    pub after_from : (x w : ℕ) → w ≢ a.sink → After later flips x w → After t.now flips x w
    after_from x w other h = elim (after_by later flips x w h) [
      | inl c ↦ by_after t.now flips x w (record { arc = c.arc; listed = c.listed; after = conducts_from c.arc c.listed (other_mux c.arc w other c.to c.listed) c.after; from = c.from; to = c.to })
      | inr i ↦ fixed_after t.now flips x w i
    ]

    pub after_to : (x w : ℕ) → w ≢ a.sink → After t.now flips x w → After later flips x w
    after_to x w other h = elim (after_by t.now flips x w h) [
      | inl c ↦ by_after later flips x w (record { arc = c.arc; listed = c.listed; after = conducts_to c.arc c.listed (other_mux c.arc w other c.to c.listed) c.after; from = c.from; to = c.to })
      | inr i ↦ fixed_after later flips x w i
    ]

    -- the sink isn't hit
    pub hit_other : (image : Bits) (w : ℕ) → IsHit (record { graph = t.now.graph; image = image; cells = t.now.cells; side = t.now.side }) flips w → w ≢ a.sink
    hit_other image w h s = apart (subst (λ m. is_affected t.now.graph flips m ≡ true) (into_sink t.now t.config a num use_a.routable h.arc h.listed (h.drives ∙ s)) h.affected)

    pub hit_from : (w : ℕ) → IsHit later flips w → IsHit t.now flips w
    hit_from w h =
        let other : w ≢ a.sink = hit_other later.image w h in
        record {
          arc = h.arc;
          listed = h.listed;
          affected = h.affected;
          drives = h.drives;
          source = h.source;
          differs = elim h.differs [
            | inl d ↦ inl (after_from h.source w other d.0, λ l. d.1 (link_old t.now t.config a num use_a.routable h.source w l))
            | inr d ↦ elim (link_new t.now t.config a num use_a.routable h.source w d.0) [
              | inl l ↦ inr (l, λ f. d.1 (after_to h.source w other f))
              | inr e ↦ absurd (other e.1)
            ]
          ];
        }

    pub hit_to : (w : ℕ) → IsHit t.now flips w → IsHit later flips w
    hit_to w h =
        let other : w ≢ a.sink = hit_other t.now.image w h in
        record {
          arc = h.arc;
          listed = h.listed;
          affected = h.affected;
          drives = h.drives;
          source = h.source;
          differs = elim h.differs [
            | inl d ↦ inl (after_to h.source w other d.0, λ l. elim (link_new t.now t.config a num use_a.routable h.source w l) [ inl k ↦ d.1 k | inr e ↦ other e.1 ])
            | inr d ↦ inr (link_old t.now t.config a num use_a.routable h.source w d.0, λ f. d.1 (after_from h.source w other f))
          ];
        }

    pub short_from : (x : ℕ) → IsShortSource later flips x → IsShortSource t.now flips x
    short_from x s =
        let other : s.sink ≢ a.sink = hit_other later.image s.sink s.shorted.hit in
        record {
          sink = s.sink;
          shorted = record {
            hit = hit_from s.sink s.shorted.hit;
            joined = elim s.shorted.joined [
              | inl two ↦ inl (two.0, (two.1.0, (after_from two.0 s.sink other two.1.1.0, after_from two.1.0 s.sink other two.1.1.1, two.1.1.2)))
              | inr out ↦ inr (out.0, (out.1.0, after_from out.1.0 s.sink other out.1.1))
            ];
          };
          after = after_from x s.sink other s.after;
        }

    pub short_to : (x : ℕ) → IsShortSource t.now flips x → IsShortSource later flips x
    short_to x s =
        let other : s.sink ≢ a.sink = hit_other t.now.image s.sink s.shorted.hit in
        record {
          sink = s.sink;
          shorted = record {
            hit = hit_to s.sink s.shorted.hit;
            joined = elim s.shorted.joined [
              | inl two ↦ inl (two.0, (two.1.0, (after_to two.0 s.sink other two.1.1.0, after_to two.1.0 s.sink other two.1.1.1, two.1.1.2)))
              | inr out ↦ inr (out.0, (out.1.0, after_to out.1.0 s.sink other out.1.1))
            ];
          };
          after = after_to x s.sink other s.after;
        }

    -- a wire below the sink that the flips disturb
    pub record DisturbsBelow : Type 0 where
      pub wire : ℕ
      pub below : Below (routing t.now) a.sink wire
      pub disturbed : IsDisturbed t.now flips wire

    -- each domain of the flips was theirs before, or is the net's, and they disturbed a wire below the sink
    pub domains_from : OutputsApart (circuit_of t.now) → IsClean (routing t.now) → HasDomain (circuit_of t.now) a.source t.net.domain → (d : Domain) → FlipsHave later flips d
        → FlipsHave t.now flips d ⊎ (DisturbsBelow × (d ≡ t.net.domain))
    domains_from outs clean fed d h = elim h [
      | inl w ↦ elim w.1.0 [
        | inl hit ↦ at w.0 (inl (hit_from w.0 hit)) w.1.1
        | inr x ↦ at x.0 (inr (x.0, (short_from x.0 x.1.0, here))) (domain_along (circuit_of later) x.0 w.0 d (clean_new t.now t.config a num use_a.routable clean) x.1.1 w.1.1)
      ]
      | inr n ↦ inl (inr n)
    ]
      where
        at : (r : ℕ) → IsDisturbed t.now flips r → HasDomain (circuit_of later) r d → FlipsHave t.now flips d ⊎ (DisturbsBelow × (d ≡ t.net.domain))
        at r dist hd = elim (domain_new t.now t.config a num use_a.routable outs fed r d hd) [
          | inl old ↦ inl (inl (r, (dist, old)))
          | inr k ↦ inr (record { wire = r; below = k.0; disturbed = dist }, k.1)
        ]

  -- a bit of the mux: the net's domain alone
  module _ (outs : OutputsApart (circuit_of t.now)) (settings : BitsAreSettings t.now) (clean : IsClean (routing t.now)) (fed : HasDomain (circuit_of t.now) a.source t.net.domain)
      (b : DeviceBit) (mine : In (bits_of_mux t.now.graph a.mux) b) where
    pub mine_alone : (n : ℕ) → is_affected t.now.graph (only b) n ≡ true → n ≡ a.mux
    mine_alone n h =
        let x = affected_bit t.now.graph (only b) n h in
        use_a.routable.free_sink.plain.alone b mine n (subst (In (bits_of_mux t.now.graph n)) (sym (same_is b x.0 x.1.1)) x.1.0)

    pub mine_hit : (w : ℕ) → IsHit later (only b) w → w ≡ a.sink
    mine_hit w h = sym h.drives ∙ num.one_sink h.arc a h.listed use_a.routable.listed (mine_alone h.arc.mux h.affected)

    mine_old : (v : ℕ) (d : Domain) → (HasDomain (circuit_of t.now) v d → d ≡ t.net.domain) → HasDomain (circuit_of later) v d → d ≡ t.net.domain
    mine_old v d f h = elim (domain_new t.now t.config a num use_a.routable outs fed v d h) [ inl k ↦ f k | inr k ↦ k.1 ]

    mine_after : (s : ℕ) (d : Domain) → After later (only b) s a.sink → HasDomain (circuit_of later) s d → d ≡ t.net.domain
    mine_after s d h hd = elim (after_by later (only b) s a.sink h) [
      | inl c ↦ (let same : c.arc.mux ≡ a.mux = into_sink t.now t.config a num use_a.routable c.arc c.listed c.to in go c same (is_affected t.now.graph (only b) c.arc.mux) refl)
      | inr i ↦ absurd (use_a.routable.free_sink.none_fixed (record { source = s; sink = a.sink }) i refl)
    ]
      where
        go : (c : ConductsBy later (only b) s a.sink) → c.arc.mux ≡ a.mux → (z : Bool) → is_affected t.now.graph (only b) c.arc.mux ≡ z → d ≡ t.net.domain
        go c same true e = mine_old s d (λ old. use_a.flips b mine c.arc c.listed same (sym (conducts_is t.now.graph later.image (only b) c.arc true e) ∙ c.after) d
            (subst (λ x. HasDomain (circuit_of t.now) x d) (sym c.from) old)) hd
        go c same false e = mine_old s d (λ old. one_domain (circuit_of t.now) outs a.source d t.net.domain
            (subst (λ x. HasDomain (circuit_of t.now) x d)
            (sym c.from ∙ ap (λ z. z.source) (use_a.routable.chosen.alone c.arc c.listed same (sym (conducts_is t.now.graph later.image (only b) c.arc false e) ∙ c.after))) old) fed) hd

    -- no cell is touched
    untouched : (bits : List DeviceBit) → ((x : DeviceBit) → In bits x → In bits b → ⊥) → list_any (only b) bits ≡ true → ⊥
    untouched bits none h = let x = any_from (only b) bits h in none x.0 x.1 (subst (In bits) (sym (same_is b x.0 x.2)) x.1)

    pub mine_untouched : (name : List ℕ) → IsTouched later (only b) name → ⊥
    mine_untouched name h = elim (in_either (map (λ s. s.name) (filter (λ s. list_any (only b) s.bits) t.now.cells.slices)) (map (λ p. p.name) (filter (λ p. list_any (only b) p.bits) t.now.cells.pads)) name h) [
      | inl i ↦ (let m = of_map (λ s. s.name) (filter (λ s. list_any (only b) s.bits) t.now.cells.slices) name i in
          let f = in_filter_from (λ s. list_any (only b) s.bits) t.now.cells.slices m.0 m.1.0 in
          untouched m.0.bits (λ x j k. use_a.routable.free_sink.plain.no_setting b mine (settings.slices m.0 f.0 b k)) f.1)
      | inr i ↦ (let m = of_map (λ p. p.name) (filter (λ p. list_any (only b) p.bits) t.now.cells.pads) name i in
          let f = in_filter_from (λ p. list_any (only b) p.bits) t.now.cells.pads m.0 m.1.0 in
          untouched m.0.bits (λ x j k. use_a.routable.free_sink.plain.no_setting b mine (settings.pads m.0 f.0 b k)) f.1)
    ]

    pub mine_domains : (d : Domain) → FlipsHave later (only b) d → d ≡ t.net.domain
    mine_domains d h = elim h [
      | inl w ↦ elim w.1.0 [
        | inl hit ↦ mine_old w.0 d (λ old. absurd (use_a.routable.none_fed.unfed w.0 (subst (Below (routing t.now) a.sink) (sym (mine_hit w.0 hit)) here) (old.source.out, old.feeds))) w.1.1
        | inr x ↦ mine_after x.0 d (subst (After later (only b) x.0) (mine_hit x.1.0.sink x.1.0.shorted.hit) x.1.0.after)
            (domain_along (circuit_of later) x.0 w.0 d (clean_new t.now t.config a num use_a.routable clean) x.1.1 w.1.1)
      ]
      | inr n ↦ absurd (mine_untouched n.0 n.1.0)
    ]

  -- each routing-mux bit is the mux's, or its flip leaves the mux alone
  pub mine_or : (b : DeviceBit) → is_mux_bit t.now.graph b ≡ true → In (bits_of_mux t.now.graph a.mux) b ⊎ (is_affected t.now.graph (only b) a.mux ≡ true → ⊥)
  mine_or b r =
      let n = mux_bit_named t.now.graph b r in
      elim (same_number n.0 a.mux) [
        | inl s ↦ inl (subst (λ m. In (bits_of_mux t.now.graph m) b) s n.1)
        | inr o ↦ inr (λ h. let x = affected_bit t.now.graph (only b) a.mux h in
            o (use_a.routable.free_sink.plain.alone b (subst (In (bits_of_mux t.now.graph a.mux)) (sym (same_is b x.0 x.1.1)) x.1.0) n.0 n.1))
      ]

  pub safe_new : OutputsApart (circuit_of t.now) → BitsAreSettings t.now → IsClean (routing t.now) → HasDomain (circuit_of t.now) a.source t.net.domain → IsSafe t.now → IsSafe later
  safe_new outs settings clean fed safe b r bad = elim (mine_or b r) [
    | inl mine ↦ (let all = mine_domains outs settings clean fed b mine in bad.1.1.2 (all bad.0 bad.1.1.0 ∙ sym (all bad.1.0 bad.1.1.1)))
    | inr apart ↦ (let from = domains_from (only b) apart outs clean fed in
        elim (from bad.0 bad.1.1.0) [
          | inl p ↦ elim (from bad.1.0 bad.1.1.1) [
            | inl q ↦ safe b r (bad.0, (bad.1.0, (p, q, bad.1.1.2)))
            | inr q ↦ bad.1.1.2 (use_a.disturbed b r q.0.wire q.0.below q.0.disturbed bad.0 p ∙ sym q.1)
          ]
          | inr p ↦ elim (from bad.1.0 bad.1.1.1) [
            | inl q ↦ bad.1.1.2 (p.1 ∙ sym (use_a.disturbed b r p.0.wire p.0.below p.0.disturbed bad.1.0 q))
            | inr q ↦ bad.1.1.2 (p.1 ∙ sym q.1)
          ]
        ])
  ]
