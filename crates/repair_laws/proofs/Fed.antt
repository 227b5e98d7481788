-- Feeds, cleanness, domains and lines with one more arc that the routing takes.
use Rattle.std.proofs.Common.{◌≡◌, ℕ, true, ◌⊎◌, ◌↔◌, inl, inr, sym, ap, subst, ◌∙◌}
use Rattle.words.specs.Members.{In}
use Rattle.records.specs.Config.{Config}
use Rattle.records.specs.Side.{Domain}
use Rattle.links.specs.Links.{Drives, here, onto, Below, Feeds, Fed, Counting, IsClean}
use Rattle.links.proofs.Walks.{reaches_on, reaches_by}
use Rattle.links.proofs.Feeds.{one_feed}
use Rattle.fabric.specs.Graph.{GraphArc}
use Rattle.fabric.specs.Agree.{HasLine, ArcsAgree}
use Rattle.fabric.specs.Links.{is_chosen}
use Rattle.fabric_laws.proofs.Agreeing.{line_listed}
use Rattle.circuit.specs.Circuits.{Circuit}
use Rattle.circuit.specs.Domains.{HasDomain}
use Rattle.circuit.specs.WellFormed.{OutputsApart}
use Rattle.upset.specs.Configured.{Configured, circuit_of}
use Rattle.repair.specs.Added.{with_arc, added}
use Rattle.repair.specs.Turns.{routing}
use Rattle.repair.specs.Usable.{IsRoutable}
use Rattle.repair_laws.proofs.Numbers.{IsNumbered}
use Rattle.repair_laws.proofs.Walks.{split}
use Rattle.repair_laws.proofs.Added.{link_old, link_new, link_added, undriven, chosen_old, chosen_new}

-- a wire has one domain at most
pub one_domain : (c : Circuit) → OutputsApart c → (w : ℕ) (d e : Domain) → HasDomain c w d → HasDomain c w e → d ≡ e
one_domain c apart w d e p q = sym p.domain ∙ ap (λ s. s.domain) (apart.alone p.source q.source p.listed q.listed (q.only p.source.out p.feeds)) ∙ q.domain

-- in a clean circuit a wire that a part feeds has its domain
pub fed_domain : (c : Circuit) (w : ℕ) (d : Domain) → IsClean c.routing → (h : HasDomain c w d) → (v : ℕ) → Below c.routing w v → HasDomain c v d
fed_domain c w d clean h v b =
    let f : Feeds c.routing h.source.out v = record { output = h.feeds.output; reach = reaches_on h.feeds.reach b } in
    record { source = h.source; listed = h.listed; feeds = f; only = λ o g. one_feed c.routing clean o h.source.out v g f; domain = h.domain }

module _ (k : Configured) (config : Config) (a : GraphArc) (num : IsNumbered k.graph) (use_a : IsRoutable k config a) where
  pub feeds_old : (c v : ℕ) → Feeds (routing k) c v → Feeds (routing (added k a)) c v
  feeds_old c v f = record { output = f.output; reach = reaches_by (link_old k config a num use_a) f.reach }

  pub feeds_new : (c v : ℕ) → Feeds (routing (added k a)) c v → Feeds (routing k) c v ⊎ (Feeds (routing k) c a.source × Below (routing k) a.sink v)
  feeds_new c v f = elim (split a.source a.sink (link_new k config a num use_a) f.reach) [
    | inl r ↦ inl (record { output = f.output; reach = r })
    | inr r ↦ inr (record { output = f.output; reach = r.0 }, r.1)
  ]

  pub feeds_added : (c v : ℕ) → Feeds (routing k) c a.source → Below (routing k) a.sink v → Feeds (routing (added k a)) c v
  feeds_added c v f b = record {
    output = f.output;
    reach = reaches_on (onto (reaches_by (link_old k config a num use_a) f.reach) (link_added k config a num use_a)) (reaches_by (link_old k config a num use_a) b);
  }

  pub fed_new : (v : ℕ) → Fed (routing (added k a)) v → Fed (routing k) v ⊎ Below (routing k) a.sink v
  fed_new v f = elim (feeds_new f.0 v f.1) [ inl h ↦ inl (f.0, h) | inr h ↦ inr h.1 ]

  -- two drivers of a wire below the sink are one
  one_below : (v y z : ℕ) → Below (routing k) a.sink v → Drives (routing k) y v → Drives (routing k) z v → y ≡ z
  one_below v y z b ly lz =
      let r = use_a.one_driver v b (λ s. undriven k config a num use_a y (subst (λ t. Drives (routing k) y t) s ly)) in
      r.1.1 y ly ∙ sym (r.1.1 z lz)

  pub clean_new : IsClean (routing k) → IsClean (routing (added k a))
  clean_new clean = record { one_driver = one; outputs_undriven = none }
    where
      both : (v y z : ℕ) → Drives (routing k) y v → Fed (routing (added k a)) y → Drives (routing k) z v → Fed (routing (added k a)) z → y ≡ z
      both v y z ly fy lz fz = elim (fed_new y fy) [
        | inr b ↦ one_below v y z (onto b ly) ly lz
        | inl ky ↦ elim (fed_new z fz) [ inr b ↦ one_below v y z (onto b lz) ly lz | inl kz ↦ clean.one_driver v y z (ly, ky) (lz, kz) ]
      ]

      one : (v y z : ℕ) → Counting (routing (added k a)) y v → Counting (routing (added k a)) z v → y ≡ z
      one v y z cy cz = elim (link_new k config a num use_a y v cy.0) [
        | inl ly ↦ elim (link_new k config a num use_a z v cz.0) [
          | inl lz ↦ both v y z ly cy.1 lz cz.1
          | inr s ↦ absurd (undriven k config a num use_a y (subst (λ t. Drives (routing k) y t) s.1 ly))
        ]
        | inr s ↦ elim (link_new k config a num use_a z v cz.0) [
          | inl lz ↦ absurd (undriven k config a num use_a z (subst (λ t. Drives (routing k) z t) s.1 lz))
          | inr t ↦ s.0 ∙ sym t.0
        ]
      ]

      none : (v y : ℕ) → In k.graph.outputs v → Counting (routing (added k a)) y v → ⊥
      none v y out cy = elim (link_new k config a num use_a y v cy.0) [
        | inl ly ↦ elim (fed_new y cy.1) [ inl ky ↦ clean.outputs_undriven v y out (ly, ky) | inr b ↦ use_a.none_fed.no_output v (onto b ly) out ]
        | inr s ↦ use_a.none_fed.no_output a.sink here (subst (In k.graph.outputs) s.1 out)
      ]

  pub domain_old : (v : ℕ) (d : Domain) → HasDomain (circuit_of k) v d → HasDomain (circuit_of (added k a)) v d
  domain_old v d h = record {
    source = h.source;
    listed = h.listed;
    feeds = feeds_old h.source.out v h.feeds;
    only = λ c f. elim (feeds_new c v f) [ inl g ↦ h.only c g | inr g ↦ absurd (use_a.none_fed.unfed v g.1 (h.source.out, h.feeds)) ];
    domain = h.domain;
  }

  pub domain_below : {e : Domain} → HasDomain (circuit_of k) a.source e → (v : ℕ) → Below (routing k) a.sink v → HasDomain (circuit_of (added k a)) v e
  domain_below fed v b = record {
    source = fed.source;
    listed = fed.listed;
    feeds = feeds_added fed.source.out v fed.feeds b;
    only = λ c f. elim (feeds_new c v f) [ inl g ↦ absurd (use_a.none_fed.unfed v b (c, g)) | inr g ↦ fed.only c g.0 ];
    domain = fed.domain;
  }

  pub domain_new : {e : Domain} → OutputsApart (circuit_of k) → HasDomain (circuit_of k) a.source e → (v : ℕ) (d : Domain)
      → HasDomain (circuit_of (added k a)) v d → HasDomain (circuit_of k) v d ⊎ (Below (routing k) a.sink v × (d ≡ e))
  domain_new {e} apart fed v d h = elim (feeds_new h.source.out v h.feeds) [
    | inl f ↦ inl (record { source = h.source; listed = h.listed; feeds = f; only = λ c g. h.only c (feeds_old c v g); domain = h.domain })
    | inr f ↦ inr (f.1, sym h.domain ∙ ap (λ s. s.domain) (apart.alone h.source fed.source h.listed fed.listed (fed.only h.source.out f.0)) ∙ fed.domain)
  ]

  -- the arcs agree with a text that has the arc's line besides
  pub agree_new : (text more : Config) → ((c : GraphArc) → HasLine k.graph more c ↔ (HasLine k.graph text c ⊎ (c ≡ a)))
      → ArcsAgree k.graph k.image text → ArcsAgree k.graph (with_arc k.image a) more
  agree_new text more lines h = record {
    chosen_has_line = λ c i ch plain. (lines c).1 (elim (chosen_new k config a num use_a c i ch) [ inl old ↦ inl (h.chosen_has_line c i old plain) | inr s ↦ inr s ]);
    line_is_chosen = λ c l. elim ((lines c).0 l) [
      | inl old ↦ chosen_old k config a num use_a c (line_listed k.graph text c old) (h.line_is_chosen c old)
      | inr s ↦ subst (λ z. is_chosen k.graph (with_arc k.image a) z ≡ true) (sym s) use_a.chosen.chosen
    ];
  }
