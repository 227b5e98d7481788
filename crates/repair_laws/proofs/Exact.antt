-- The effect of flips after an arc, exactly.
use Rattle.std.proofs.Common.{◌≡◌, ℕ, true, ◌⊎◌, inl, inr, sym, subst}
use Rattle.words.specs.Members.{In}
use Rattle.patterns.specs.Bits.{DeviceBit, Bits}
use Rattle.records.specs.Side.{Domain}
use Rattle.links.specs.Links.{Counting, here, IsClean}
use Rattle.links.proofs.Walks.{reaches_by}
use Rattle.fabric.specs.Graph.{GraphArc}
use Rattle.circuit.specs.Domains.{HasDomain}
use Rattle.circuit.specs.WellFormed.{OutputsApart}
use Rattle.upset.specs.Configured.{circuit_of}
use Rattle.upset.specs.After.{is_affected}
use Rattle.upset.specs.Effect.{IsHit, IsDisturbed}
use Rattle.upset.specs.Safe.{FlipsHave, only}
use Rattle.repair.specs.Plain.{bits_of_mux}
use Rattle.repair.specs.Added.{added}
use Rattle.repair.specs.Turns.{Turn, routing}
use Rattle.repair.specs.Usable.{IsUsable}
use Rattle.repair_laws.specs.Effects.{DisturbBelow, KeepsEffect, HasNetDomain}
use Rattle.repair_laws.specs.Ready.{BitsAreSettings}
use Rattle.repair_laws.proofs.Numbers.{IsNumbered}
use Rattle.repair_laws.proofs.Added.{link_old}
use Rattle.repair_laws.proofs.Fed.{feeds_old, domain_old, domain_below}
use Rattle.repair_laws.proofs.Flipped.{after_from, after_to, hit_from, hit_to, short_from, short_to, domains_from, mine_hit, mine_domains, mine_untouched}

module _ (t : Turn) (a : GraphArc) (num : IsNumbered t.now.graph) (use_a : IsUsable t a) (outs : OutputsApart (circuit_of t.now)) (clean : IsClean (routing t.now))
    (fed : HasDomain (circuit_of t.now) a.source t.net.domain) where
  counting_old : (x w : ℕ) → Counting (routing t.now) x w → Counting (routing (added t.now a)) x w
  counting_old x w h = (link_old t.now t.config a num use_a.routable x w h.0, (h.1.0, feeds_old t.now t.config a num use_a.routable h.1.0 x h.1.1))

  module _ (flips : Bits) (apart : is_affected t.now.graph flips a.mux ≡ true → ⊥) where
    disturbed_to : (w : ℕ) → IsDisturbed t.now flips w → IsDisturbed (added t.now a) flips w
    disturbed_to w h = elim h [
      | inl hit ↦ inl (hit_to t a num use_a flips apart w hit)
      | inr x ↦ inr (x.0, (short_to t a num use_a flips apart x.0 x.1.0, reaches_by (λ u v c. counting_old v u c) x.1.1))
    ]

    domains_to : (d : Domain) → FlipsHave t.now flips d ⊎ ((d ≡ t.net.domain) × DisturbBelow t a flips) → FlipsHave (added t.now a) flips d
    domains_to d h = elim h [
      | inl k ↦ elim k [
        | inl w ↦ inl (w.0, (disturbed_to w.0 w.1.0, domain_old t.now t.config a num use_a.routable w.0 d w.1.1))
        | inr n ↦ inr n
      ]
      | inr k ↦ inl (k.1.0, (disturbed_to k.1.0 k.1.1.1, subst (HasDomain (circuit_of (added t.now a)) k.1.0) (sym k.0) (domain_below t.now t.config a num use_a.routable fed k.1.0 k.1.1.0)))
    ]

    pub keeps_effect : KeepsEffect t a flips
    keeps_effect = record {
      hit = λ w. (hit_from t a num use_a flips apart w, hit_to t a num use_a flips apart w);
      after = λ x w other. (after_from t a num use_a flips apart x w other, after_to t a num use_a flips apart x w other);
      sources = λ x. (short_from t a num use_a flips apart x, short_to t a num use_a flips apart x);
      domains = λ d. (
        (λ h. elim (domains_from t a num use_a flips apart outs clean fed d h) [ inl k ↦ inl k | inr k ↦ inr (k.1, (k.0.wire, (k.0.below, k.0.disturbed))) ]),
        domains_to d,
      );
    }

  pub net_domain : BitsAreSettings t.now → (b : DeviceBit) → In (bits_of_mux t.now.graph a.mux) b → HasNetDomain t a b
  net_domain settings b mine d = (
    (λ h. (mine_domains t a num use_a outs settings clean fed b mine d h, hits h)),
    (λ h. inl (a.sink, (inl h.1, subst (HasDomain (circuit_of (added t.now a)) a.sink) (sym h.0) (domain_below t.now t.config a num use_a.routable fed a.sink here)))),
  )
    where
      at_sink : (w : ℕ) → IsHit (added t.now a) (only b) w → IsHit (added t.now a) (only b) a.sink
      at_sink w h = subst (IsHit (added t.now a) (only b)) (mine_hit t a num use_a outs settings clean fed b mine w h) h

      hits : FlipsHave (added t.now a) (only b) d → IsHit (added t.now a) (only b) a.sink
      hits h = elim h [
        | inl w ↦ elim w.1.0 [ inl hit ↦ at_sink w.0 hit | inr x ↦ at_sink x.1.0.sink x.1.0.shorted.hit ]
        | inr n ↦ absurd (mine_untouched t a num use_a outs settings clean fed b mine n.0 n.1.0)
      ]
