-- A path is added arc by arc.
use Rattle.std.proofs.Common.{◌≡◌, ◌≢◌, ℕ, true, ◌⊎◌, ◌↔◌, inl, inr, List, [], ◌∷◌, refl, sym, subst}
use Rattle.words.specs.Members.{In}
use Rattle.patterns.specs.Bits.{Bits}
use Rattle.patterns.specs.Fits.{has_plain_bit}
use Rattle.records.specs.Config.{Config}
use Rattle.records.specs.Side.{Domain}
use Rattle.links.specs.Links.{Drives, Below, Feeds, IsClean}
use Rattle.links.proofs.Walks.{reaches_by}
use Rattle.links.proofs.Feeds.{one_feed}
use Rattle.fabric.specs.Graph.{GraphArc, Graph}
use Rattle.fabric.specs.Links.{is_chosen}
use Rattle.fabric.specs.Agree.{HasLine, ArcsAgree}
use Rattle.circuit.specs.Parts.{sources}
use Rattle.circuit.specs.Domains.{HasDomain}
use Rattle.circuit.specs.WellFormed.{OutputsApart}
use Rattle.upset.specs.Configured.{circuit_of}
use Rattle.upset.specs.Safe.{IsSafe}
use Rattle.fabric_laws.proofs.Agreeing.{line_listed}
use Rattle.paths.specs.Paths.{LeadsOn, HasNoSinkTwice}
use Rattle.repair.specs.Added.{added, added_all}
use Rattle.repair.specs.Turns.{Turn, routing}
use Rattle.repair.specs.Usable.{IsUsable}
use Rattle.repair.specs.Routes.{roads_for, IsRoute}
use Rattle.repair_laws.specs.Ready.{BitsAreSettings}
use Rattle.repair_laws.specs.Kept.{IsBelowOne, AreKept}
use Rattle.repair_laws.proofs.Numbers.{IsNumbered}
use Rattle.repair_laws.proofs.Added.{link_old, chosen_old, chosen_new}
use Rattle.repair_laws.proofs.Fed.{feeds_old, feeds_new, feeds_added, clean_new, domain_old, domain_new, domain_below}
use Rattle.repair_laws.proofs.Flipped.{safe_new}
use Rattle.repair_laws.proofs.Kept.{after_arc, disjoint, below_from, kept}

-- chosen arcs with a plain bit have a line, and arcs of the graph with a line are chosen
pub record AgreeBy (g : Graph) (image : Bits) (HasOne : GraphArc → Type 0) : Type 0 where
  pub has_line : (c : GraphArc) → In g.arcs c → is_chosen g image c ≡ true → has_plain_bit c.arc.bits ≡ true → HasOne c
  pub is_chosen : (c : GraphArc) → In g.arcs c → HasOne c → is_chosen g image c ≡ true

pub agree_to : (g : Graph) (image : Bits) (text : Config) (HasOne : GraphArc → Type 0) → ((c : GraphArc) → HasLine g text c ↔ HasOne c) → AgreeBy g image HasOne → ArcsAgree g image text
agree_to g image text HasOne same h = record {
  chosen_has_line = λ c i ch plain. (same c).1 (h.has_line c i ch plain);
  line_is_chosen = λ c l. h.is_chosen c (line_listed g text c l) ((same c).0 l);
}

pub agree_from : (g : Graph) (image : Bits) (text : Config) → ArcsAgree g image text → AgreeBy g image (HasLine g text)
agree_from g image text h = record { has_line = h.chosen_has_line; is_chosen = λ c i l. h.line_is_chosen c l }

-- What holds once arcs were added: links and domains stay, and wires below the new sinks get the net's. Arcs agree
-- with the lines of the new ones.
pub record Grows (t : Turn) (arcs : List GraphArc) : Type 1 where
  pub clean : IsClean (routing (added_all t.now arcs))
  pub safe : IsSafe (added_all t.now arcs)
  pub links : (x w : ℕ) → Drives (routing t.now) x w → Drives (routing (added_all t.now arcs)) x w
  pub stays : (w : ℕ) (d : Domain) → HasDomain (circuit_of t.now) w d → HasDomain (circuit_of (added_all t.now arcs)) w d
  pub feeds : (c w : ℕ) → Feeds (routing (added_all t.now arcs)) c w ↔ (Feeds (routing t.now) c w ⊎ ((c ≡ t.net.out) × IsBelowOne t arcs w))
  pub below : (w : ℕ) → IsBelowOne t arcs w → HasDomain (circuit_of (added_all t.now arcs)) w t.net.domain
  pub others : (w : ℕ) → (IsBelowOne t arcs w → ⊥) → (d : Domain) → HasDomain (circuit_of (added_all t.now arcs)) w d ↔ HasDomain (circuit_of t.now) w d
  pub agree : (HasOne : GraphArc → Type 0) → AgreeBy t.now.graph t.now.image HasOne → AgreeBy t.now.graph (added_all t.now arcs).image (λ c. HasOne c ⊎ In arcs c)

pub are_kept : (t : Turn) (arcs : List GraphArc) → Grows t arcs → AreKept t arcs
are_kept t arcs g = record {
  clean = g.clean;
  safe = g.safe;
  feeds = g.feeds;
  below = g.below;
  others = g.others;
  agree = λ text more lines h. agree_to t.now.graph (added_all t.now arcs).image more (λ c. HasLine t.now.graph text c ⊎ In arcs c) lines
      (g.agree (HasLine t.now.graph text) (agree_from t.now.graph t.now.image text h));
}

-- the parts of a turn that are ready
pub record Sound (t : Turn) : Type 0 where
  pub numbers : IsNumbered t.now.graph
  pub clean : IsClean (routing t.now)
  pub outputs : OutputsApart (circuit_of t.now)
  pub settings : BitsAreSettings t.now
  pub net : In (sources t.now.cells) t.net

-- what a part feeds has its domain
pub net_domain : (t : Turn) → Sound t → (w : ℕ) → Feeds (routing t.now) t.net.out w → HasDomain (circuit_of t.now) w t.net.domain
net_domain t sound w f = record {
  source = t.net;
  listed = sound.net;
  feeds = f;
  only = λ o g. one_feed (routing t.now) sound.clean o t.net.out w g f;
  domain = refl;
}

-- a wire that the net feeds is fed by it alone
net_alone : (t : Turn) → Sound t → (c w : ℕ) → Feeds (routing t.now) t.net.out w → Feeds (routing t.now) c w → c ≡ t.net.out
net_alone t sound c w f g = one_feed (routing t.now) sound.clean c t.net.out w g f

module _ (t : Turn) (sound : Sound t) (a : GraphArc) (use_a : IsUsable t a) (from : Feeds (routing t.now) t.net.out a.source) where
  fed : HasDomain (circuit_of t.now) a.source t.net.domain
  fed = net_domain t sound a.source from

  pub sound_after : Sound (after_arc t a)
  sound_after = record {
    numbers = sound.numbers;
    clean = clean_new t.now t.config a sound.numbers use_a.routable sound.clean;
    outputs = record { listed = sound.outputs.listed; alone = sound.outputs.alone };
    settings = record { slices = sound.settings.slices; pads = sound.settings.pads };
    net = sound.net;
  }

  safe_after : IsSafe t.now → IsSafe (added t.now a)
  safe_after safe = safe_new t a sound.numbers use_a sound.outputs sound.settings sound.clean fed safe

  -- what leads on does so after the arc
  leads_after : (w : ℕ) (rest : List GraphArc) (pin : ℕ) → ((b : GraphArc) → In rest b → b.sink ≢ a.sink) → LeadsOn (roads_for t) w rest pin → LeadsOn (roads_for (after_arc t a)) w rest pin
  leads_after w [] pin other p = reaches_by (link_old t.now t.config a sound.numbers use_a.routable) p
  leads_after w (b ∷ rest) pin other p = (
    reaches_by (link_old t.now t.config a sound.numbers use_a.routable) p.0,
    kept t sound.numbers sound.outputs sound.settings sound.clean a use_a fed b p.1 (other b (inl refl)),
    leads_after b.sink rest pin (λ c i. other c (inr i)) p.2,
  )

  -- the rest of a path is a path after its first arc
  pub rest_path : (rest : List GraphArc) (pin : ℕ) → ((b : GraphArc) → In rest b → b.sink ≢ a.sink) → LeadsOn (roads_for t) a.sink rest pin → IsRoute (after_arc t a) rest pin
  rest_path [] pin other p = feeds_added t.now t.config a sound.numbers use_a.routable t.net.out pin from p
  rest_path (b ∷ rest) pin other p = (
    feeds_added t.now t.config a sound.numbers use_a.routable t.net.out b.source from p.0,
    kept t sound.numbers sound.outputs sound.settings sound.clean a use_a fed b p.1 (other b (inl refl)),
    leads_after b.sink rest pin (λ c i. other c (inr i)) p.2,
  )

  -- a later sink is below none but its own
  back : (rest : List GraphArc) → ((b : GraphArc) → In rest b → b.sink ≢ a.sink) → ((b : GraphArc) → In rest b → IsUsable t b) → (b : GraphArc) → In rest b
      → {w : ℕ} → Below (routing (added t.now a)) b.sink w → Below (routing t.now) b.sink w
  back rest other use_b b i q = below_from t sound.numbers sound.outputs sound.settings sound.clean a use_a fed b (use_b b i) (other b i) q

  -- one arc more
  pub grown : IsSafe t.now → (rest : List GraphArc) → ((b : GraphArc) → In rest b → b.sink ≢ a.sink) → ((b : GraphArc) → In rest b → IsUsable t b) → Grows (after_arc t a) rest → Grows t (a ∷ rest)
  grown safe rest other use_b r = record {
    links = λ x w l. r.links x w (link_old t.now t.config a sound.numbers use_a.routable x w l);
    stays = λ w d h. r.stays w d (domain_old t.now t.config a sound.numbers use_a.routable w d h);
    clean = r.clean;
    safe = r.safe;
    feeds = λ c w. (feeds_to c w, feeds_from c w);
    below = λ w k. elim k.1.0 [
      | inl e ↦ at_first w (subst (λ x. Below (routing t.now) x.sink w) (sym e) k.1.1)
      | inr i ↦ r.below w (k.0, (i, reaches_by (link_old t.now t.config a sound.numbers use_a.routable) k.1.1))
    ];
    others = λ w n d. (
      (λ h. elim (domain_new t.now t.config a sound.numbers use_a.routable sound.outputs fed w d ((r.others w (apart_later w n) d).0 h)) [
        | inl old ↦ old
        | inr k ↦ absurd (n (a, (inl refl, k.0)))
      ]),
      (λ h. (r.others w (apart_later w n) d).1 (domain_old t.now t.config a sound.numbers use_a.routable w d h)),
    );
    agree = λ HasOne h. (let q = r.agree (λ c. HasOne c ⊎ (c ≡ a)) (agree_new HasOne h) in record {
      has_line = λ c i ch plain. elim (q.has_line c i ch plain) [ inl k ↦ elim k [ inl o ↦ inl o | inr e ↦ inr (inl (sym e)) ] | inr j ↦ inr (inr j) ];
      is_chosen = λ c i l. q.is_chosen c i (elim l [ inl o ↦ inl (inl o) | inr k ↦ elim k [ inl e ↦ inl (inr (sym e)) | inr j ↦ inr j ] ]);
    });
  }
    where
      agree_new : (HasOne : GraphArc → Type 0) → AgreeBy t.now.graph t.now.image HasOne → AgreeBy t.now.graph (added t.now a).image (λ c. HasOne c ⊎ (c ≡ a))
      agree_new HasOne h = record {
        has_line = λ c i ch plain. elim (chosen_new t.now t.config a sound.numbers use_a.routable c i ch) [ inl old ↦ inl (h.has_line c i old plain) | inr s ↦ inr s ];
        is_chosen = λ c i l. elim l [
          | inl o ↦ chosen_old t.now t.config a sound.numbers use_a.routable c i (h.is_chosen c i o)
          | inr s ↦ subst (λ z. is_chosen t.now.graph (added t.now a).image z ≡ true) (sym s) use_a.routable.chosen.chosen
        ];
      }

      feeds_to : (c w : ℕ) → Feeds (routing (added_all t.now (a ∷ rest))) c w → Feeds (routing t.now) c w ⊎ ((c ≡ t.net.out) × IsBelowOne t (a ∷ rest) w)
      feeds_to c w f = elim ((r.feeds c w).0 f) [
        | inl g ↦ elim (feeds_new t.now t.config a sound.numbers use_a.routable c w g) [
          | inl old ↦ inl old
          | inr k ↦ inr (net_alone t sound c a.source from k.0, (a, (inl refl, k.1)))
        ]
        | inr k ↦ inr (k.0, (k.1.0, (inr k.1.1.0, back rest other use_b k.1.0 k.1.1.0 k.1.1.1)))
      ]

      feeds_from : (c w : ℕ) → Feeds (routing t.now) c w ⊎ ((c ≡ t.net.out) × IsBelowOne t (a ∷ rest) w) → Feeds (routing (added_all t.now (a ∷ rest))) c w
      feeds_from c w h = (r.feeds c w).1 (elim h [
        | inl f ↦ inl (feeds_old t.now t.config a sound.numbers use_a.routable c w f)
        | inr k ↦ elim k.1.1.0 [
          | inl e ↦ inl (feeds_added t.now t.config a sound.numbers use_a.routable c w (subst (λ z. Feeds (routing t.now) z a.source) (sym k.0) from)
              (subst (λ x. Below (routing t.now) x.sink w) (sym e) k.1.1.1))
          | inr i ↦ inr (k.0, (k.1.0, (i, reaches_by (link_old t.now t.config a sound.numbers use_a.routable) k.1.1.1)))
        ]
      ])

      -- what is below the first sink is below no later one
      off : (w : ℕ) → Below (routing t.now) a.sink w → IsBelowOne (after_arc t a) rest w → ⊥
      off w q k = disjoint t sound.numbers sound.outputs sound.settings sound.clean a use_a fed k.0 (use_b k.0 k.1.0) (other k.0 k.1.0) q (back rest other use_b k.0 k.1.0 k.1.1)

      at_first : (w : ℕ) → Below (routing t.now) a.sink w → HasDomain (circuit_of (added_all t.now (a ∷ rest))) w t.net.domain
      at_first w q = (r.others w (off w q) t.net.domain).1 (domain_below t.now t.config a sound.numbers use_a.routable fed w q)

      apart_later : (w : ℕ) → (IsBelowOne t (a ∷ rest) w → ⊥) → IsBelowOne (after_arc t a) rest w → ⊥
      apart_later w n k = n (k.0, (inr k.1.0, back rest other use_b k.0 k.1.0 k.1.1))

-- no arcs
grows_none : (t : Turn) → Sound t → IsSafe t.now → Grows t []
grows_none t sound safe = record {
  clean = sound.clean;
  safe = safe;
  links = λ x w l. l;
  stays = λ w d h. h;
  feeds = λ c w. ((λ f. inl f), (λ h. elim h [ inl f ↦ f | inr k ↦ absurd k.1.1.0 ]));
  below = λ w k. absurd k.1.0;
  others = λ w n d. ((λ h. h), (λ h. h));
  agree = λ HasOne h. record {
    has_line = λ c i ch plain. inl (h.has_line c i ch plain);
    is_chosen = λ c i l. elim l [ inl o ↦ h.is_chosen c i o | inr n ↦ absurd n ];
  };
}

lead_usable : (t : Turn) (w : ℕ) (path : List GraphArc) (pin : ℕ) → LeadsOn (roads_for t) w path pin → (b : GraphArc) → In path b → IsUsable t b
lead_usable t w [] pin p b i = absurd i
lead_usable t w (a ∷ rest) pin p b i = elim i [ inl e ↦ subst (IsUsable t) e p.1 | inr j ↦ lead_usable t a.sink rest pin p.2 b j ]

-- a whole path
pub path_grows : (t : Turn) → Sound t → IsSafe t.now → (path : List GraphArc) (pin : ℕ) → IsRoute t path pin → HasNoSinkTwice (roads_for t) path → Grows t path
path_grows t sound safe [] pin p once = grows_none t sound safe
path_grows t sound safe (a ∷ rest) pin p once =
    grown t sound a p.1 p.0 safe rest once.0 (lead_usable t a.sink rest pin p.2)
    (path_grows (after_arc t a) (sound_after t sound a p.1 p.0) (safe_after t sound a p.1 p.0 safe) rest pin (rest_path t sound a p.1 p.0 rest pin once.0 p.2) once.1)

-- the pin of a path is fed by the net afterwards
pub path_feeds : (t : Turn) (path : List GraphArc) (pin : ℕ) → IsRoute t path pin → Grows t path → Feeds (routing (added_all t.now path)) t.net.out pin
path_feeds t [] pin p g = p
path_feeds t (a ∷ rest) pin p g = (g.feeds t.net.out pin).1 (inr (refl, last_below a rest p.2))
  where
    last_below : (b : GraphArc) (more : List GraphArc) → LeadsOn (roads_for t) b.sink more pin → IsBelowOne t (b ∷ more) pin
    last_below b [] q = (b, (inl refl, q))
    last_below b (c ∷ more) q = let r = last_below c more q.2 in (r.0, (inr r.1.0, r.1.1))
