-- A usable arc stays usable after another one of another sink, so that a path can be added arc by arc.
use Rattle.std.proofs.Common.{◌≡◌, ◌≢◌, ℕ, true, inl, inr, sym, subst, ◌∙◌}
use Rattle.words.specs.Members.{In}
use Rattle.patterns.specs.Bits.{DeviceBit, flipped}
use Rattle.patterns.specs.Fits.{present}
use Rattle.records.specs.Side.{Domain}
use Rattle.links.specs.Links.{Drives, here, onto, Below, Fed, IsClean}
use Rattle.fabric.specs.Graph.{GraphArc}
use Rattle.fabric.specs.MuxBits.{bits_named, is_mux_bit}
use Rattle.circuit.specs.Domains.{HasDomain}
use Rattle.circuit.specs.WellFormed.{OutputsApart}
use Rattle.upset.specs.Configured.{circuit_of}
use Rattle.upset.specs.After.{is_affected}
use Rattle.upset.specs.Effect.{IsDisturbed}
use Rattle.upset.specs.Safe.{FlipsHave, only}
use Rattle.upset_laws.proofs.Roots.{unfed_roots}
use Rattle.repair.specs.Plain.{bits_of_mux}
use Rattle.repair.specs.Added.{with_arc, added}
use Rattle.repair.specs.Turns.{Turn, routing}
use Rattle.repair.specs.Usable.{IsUsable}
use Rattle.repair_laws.specs.Ready.{BitsAreSettings}
use Rattle.repair_laws.proofs.Patterns.{write_agree, present_agree, flip_agree}
use Rattle.repair_laws.proofs.Numbers.{IsNumbered, of_mux_bits}
use Rattle.repair_laws.proofs.Walks.{last, split}
use Rattle.repair_laws.proofs.Added.{chosen_agree, off_bit, link_old, link_new, undriven}
use Rattle.repair_laws.proofs.Fed.{fed_new, domain_new}
use Rattle.repair_laws.proofs.Flipped.{hit_from, short_from, domains_from, mine_domains, mine_or}

-- the turn once an arc was added
abbrev pub after_arc : Turn → GraphArc → Turn
after_arc t a = record { read = t.read; config = t.config; now = added t.now a; net = t.net }

module _ (t : Turn) (num : IsNumbered t.now.graph) (outs : OutputsApart (circuit_of t.now)) (settings : BitsAreSettings t.now) (clean : IsClean (routing t.now))
    (a : GraphArc) (use_a : IsUsable t a) (fed : HasDomain (circuit_of t.now) a.source t.net.domain)
    (b : GraphArc) (use_b : IsUsable t b) (differ : b.sink ≢ a.sink) where
  other_mux : b.mux ≢ a.mux
  other_mux s = differ (num.one_sink b a use_b.routable.listed use_a.routable.listed s)

  -- no wire is below both sinks
  pub disjoint : {v : ℕ} → Below (routing t.now) a.sink v → Below (routing t.now) b.sink v → ⊥
  disjoint here q =
      let r = use_b.routable.one_driver a.sink q (λ s. differ (sym s)) in
      undriven t.now t.config a num use_a.routable r.0 r.1.0
  disjoint {v} (onto {b = y} p l) q = elim (last q) [
    | inl s ↦ undriven t.now t.config b num use_b.routable y (subst (Drives (routing t.now) y) (sym s) l)
    | inr k ↦ (let r = use_a.routable.one_driver v (onto p l) (λ s. undriven t.now t.config a num use_a.routable y (subst (Drives (routing t.now) y) s l)) in
        disjoint p (subst (Below (routing t.now) b.sink) (r.1.1 k.0 k.1.1 ∙ sym (r.1.1 y l)) k.1.0))
  ]

  -- what is below the other sink stays
  pub below_from : {v : ℕ} → Below (routing (added t.now a)) b.sink v → Below (routing t.now) b.sink v
  below_from p = elim (split a.source a.sink (link_new t.now t.config a num use_a.routable) p) [
    | inl q ↦ q
    | inr q ↦ absurd (use_b.routable.none_fed.unfed a.source q.0 (fed.source.out, fed.feeds))
  ]

  not_fed : (v : ℕ) → Below (routing t.now) b.sink v → Fed (routing (added t.now a)) v → ⊥
  not_fed v p f = elim (fed_new t.now t.config a num use_a.routable v f) [ inl k ↦ use_b.routable.none_fed.unfed v p k | inr q ↦ disjoint q p ]

  -- the other mux and its arcs have the same bits
  same_bits : (c : GraphArc) → In t.now.graph.arcs c → c.mux ≡ b.mux → (x : DeviceBit) → In (bits_named c.origin c.arc.bits) x → with_arc (added t.now a).image b x ≡ with_arc t.now.image b x
  same_bits c i s x n = write_agree (added t.now a).image t.now.image b.origin b.arc.bits x (off_bit t.now t.config a num use_a.routable c i (λ e. other_mux (sym s ∙ e)) x n)

  kept_flips : (x : DeviceBit) → In (bits_of_mux t.now.graph b.mux) x → (c : GraphArc) → In t.now.graph.arcs c → c.mux ≡ b.mux
      → present (flipped (only x) (with_arc (added t.now a).image b)) c.origin c.arc.bits ≡ true → (d : Domain) → HasDomain (circuit_of (added t.now a)) c.source d → d ≡ t.net.domain
  kept_flips x mine c i s p d h =
      let q : present (flipped (only x) (with_arc t.now.image b)) c.origin c.arc.bits ≡ true =
      sym (present_agree (flipped (only x) (with_arc (added t.now a).image b)) (flipped (only x) (with_arc t.now.image b)) c.origin c.arc.bits
      (λ y n. flip_agree (only x) (with_arc (added t.now a).image b) (with_arc t.now.image b) y (same_bits c i s y n))) ∙ p in
      elim (domain_new t.now t.config a num use_a.routable outs fed c.source d h) [ inl old ↦ use_b.flips x mine c i s q d old | inr k ↦ k.1 ]

  kept_disturbed : (x : DeviceBit) → is_mux_bit t.now.graph x ≡ true → (v : ℕ) → Below (routing t.now) b.sink v → IsDisturbed (added t.now a) (only x) v
      → (d : Domain) → FlipsHave (added t.now a) (only x) d → d ≡ t.net.domain
  kept_disturbed x r v p dist d h = elim (mine_or t a num use_a x r) [
    | inl mine ↦ mine_domains t a num use_a outs settings clean fed x mine d h
    | inr apart ↦ elim (domains_from t a num use_a (only x) apart outs clean fed d h) [
      | inl old ↦ use_b.disturbed x r v p (before apart) d old
      | inr k ↦ k.1
    ]
  ]
    where
      before : (is_affected t.now.graph (only x) a.mux ≡ true → ⊥) → IsDisturbed t.now (only x) v
      before apart = elim ((unfed_roots (added t.now a) (only x) v (not_fed v p)).0 dist) [
        | inl hit ↦ inl (hit_from t a num use_a (only x) apart v hit)
        | inr s ↦ inr (v, (short_from t a num use_a (only x) apart v s, here))
      ]

  pub kept : IsUsable (after_arc t a) b
  kept = record {
    routable = record {
      listed = use_b.routable.listed;
      free_sink = record {
        wire = use_b.routable.free_sink.wire;
        named = use_b.routable.free_sink.named;
        on_grid = use_b.routable.free_sink.on_grid;
        one_mux = use_b.routable.free_sink.one_mux;
        plain = use_b.routable.free_sink.plain;
        none_fixed = use_b.routable.free_sink.none_fixed;
        clear = λ x m. (let n = of_mux_bits t.now.graph b.mux x m in
            off_bit t.now t.config a num use_a.routable n.arc n.listed (λ s. other_mux (sym n.of_mux ∙ s)) x n.named ∙ use_b.routable.free_sink.clear x m);
      };
      one_driver = λ v p n. (let r = use_b.routable.one_driver v (below_from p) n in (
        r.0,
        (
          link_old t.now t.config a num use_a.routable r.0 v r.1.0,
          λ z l. elim (link_new t.now t.config a num use_a.routable z v l) [
            | inl k ↦ r.1.1 z k
            | inr s ↦ absurd (disjoint here (subst (Below (routing t.now) b.sink) s.1 (below_from p)))
          ],
        ),
      ));
      none_fed = record { unfed = λ v p. not_fed v (below_from p); no_output = λ v p. use_b.routable.none_fed.no_output v (below_from p) };
      chosen = record {
        chosen = chosen_agree t.now.graph num (with_arc t.now.image b) (with_arc (added t.now a).image b) b use_b.routable.listed (λ c i s x n. sym (same_bits c i s x n)) use_b.routable.chosen.chosen;
        alone = λ c i s h. use_b.routable.chosen.alone c i s
            (chosen_agree t.now.graph num (with_arc (added t.now a).image b) (with_arc t.now.image b) c i (λ e j q x n. same_bits e j (q ∙ s) x n) h);
      };
    };
    own_pins = λ v p. use_b.own_pins v (below_from p);
    flips = kept_flips;
    disturbed = λ x r v p. kept_disturbed x r v (below_from p);
  }
