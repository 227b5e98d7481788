-- A link is added to a clean routing.
use Rattle.std.proofs.Common.{◌≡◌, ◌≢◌, ℕ, ◌<◌, ◌⊎◌, List, [], ◌∷◌, ◌++◌, Option, Some, None, length, get_or, set, refl, sym, ap, subst, ◌∙◌, inl, inr, arith}
use Rattle.std.specs.Ordering.{nat_cmp}
use Rattle.std.proofs.lemmas.Bool.{cases_eq}
use Rattle.std.proofs.lemmas.List.{get_or-set_same, length-set}
use Rattle.words.specs.Twice.{HasNoneTwice}
use Rattle.links.specs.Links.{Link, Routing, Below, Drives, Fed, Feeds, IsClean, here, onto}
use Rattle.links.proofs.Below.{is_below}
use Rattle.links.proofs.Feeds.{feeds_on}
use Rattle.links.proofs.Walks.{reaches_by}
use Rattle.fabric.specs.InOrder.{IsRising}
use Rattle.repair.specs.Usable.{HasOneDriver}
use Rattle.open_rows.specs.Rows.{pushed}
use Rattle.wire_feeds.specs.declared.noted.FedWire.{FedWire}
use Rattle.wire_feeds.specs.Rows.{AreFeeds, AreRowsWithin, HasNext, Leads}
use Rattle.wire_feeds.specs.Walks.{IsFed, IsReached, Walk}
use Rattle.wire_feeds.proofs.Ended.{walk_feeds}
use Rattle.wire_feeds.proofs.Noting.{fed_now, feed_from, keeps_feed}
use Rattle.wire_feeds.proofs.Spreading.{fed_below}
use Rattle.wire_contests.specs.Contests.{HasDrivers}
use Rattle.live_links.specs.Joined.{IsJoined}
use Rattle.live_links.proofs.Pushing.{none_in, once_push, pushed_from, pushed_has, pushed_keeps, pushed_other, pushed_row}

-- the routing with one link more
abbrev pub grown : Routing → ℕ → ℕ → Routing
grown r x w = record { links = record { source = x; sink = w } ∷ r.links; outputs = r.outputs }

-- what is asked of the link
pub record Takes (r : Routing) (x w : ℕ) : Type 0 where
  pub fed : Fed r x
  pub undriven : (y : ℕ) → Drives r y w → ⊥
  pub one_driver : (v : ℕ) → Below r w v → v ≢ w → HasOneDriver r v
  pub unfed : (v : ℕ) → Below r w v → Fed r v → ⊥

-- a wire has a feed in a list, or none
feed_or : (feeds : List (Option ℕ)) (u : ℕ) (o : Option ℕ) → get_or feeds u None ≡ o → IsFed feeds u ⊎ (get_or feeds u None ≡ None)
feed_or feeds u (Some c) is = inl (c, is)
feed_or feeds u None is = inr is

pub feed_or_none : (feeds : List (Option ℕ)) (u : ℕ) → IsFed feeds u ⊎ (get_or feeds u None ≡ None)
feed_or_none feeds u = feed_or feeds u (get_or feeds u None) refl

-- the feed of a wire that has one is known
pub feed_known : (r : Routing) (feeds : List (Option ℕ)) (u : ℕ) → AreFeeds r feeds → Fed r u → IsFed feeds u
feed_known r feeds u are f = elim (feed_or_none feeds u) [ inl g ↦ g | inr none ↦ absurd (are.unfed u none f) ]

module _ (r : Routing) (x w : ℕ) where
  pub drives_either : (a b : ℕ) → Drives (grown r x w) a b → ((x ≡ a) × (w ≡ b)) ⊎ Drives r a b
  drives_either a b d = elim d [ inl e ↦ inl (ap (λ (l : Link). l.source) e, ap (λ (l : Link). l.sink) e) | inr j ↦ inr j ]

  pub drives_new : (a b : ℕ) → x ≡ a → w ≡ b → Drives (grown r x w) a b
  drives_new a b source sink =
      subst (λ z. Drives (grown r x w) z b) source (subst (λ z. Drives (grown r x w) x z) sink (inl refl))

  below_either : (o : ℕ) {a : ℕ} → Below (grown r x w) o a → Below r o a ⊎ Below r w a
  below_either o here = inl here
  below_either o {a} (onto {b} q s) = elim (drives_either b a s) [
    | inl e ↦ inr (subst (λ z. Below r w z) e.1 here)
    | inr d ↦ elim (below_either o q) [ inl p ↦ inl (onto p d) | inr p ↦ inr (onto p d) ]
  ]

  fed_either : (a : ℕ) → Fed (grown r x w) a → Fed r a ⊎ Below r w a
  fed_either a f = elim (below_either f.0 f.1.reach) [ inl b ↦ inl (f.0, record { output = f.1.output; reach = b }) | inr b ↦ inr b ]

  fed_beside : (a v : ℕ) → (Below r w v → ⊥) → Drives r a v → Fed (grown r x w) a → Fed r a
  fed_beside a v not d f = elim (fed_either a f) [ inl g ↦ g | inr b ↦ absurd (not (onto b d)) ]

  one_of_both : Takes r x w → IsClean r → (v a b : ℕ) → Drives r a v → Drives r b v → Fed (grown r x w) a → Fed (grown r x w) b → a ≡ b
  one_of_both takes clean v a b da db fa fb = elim (is_below r w v) [
    | inl bel ↦ (let one = takes.one_driver v bel (λ e. takes.undriven a (subst (λ z. Drives r a z) e da)) in one.1.1 a da ∙ sym (one.1.1 b db))
    | inr not ↦ clean.one_driver v a b (da, fed_beside a v not da fa) (db, fed_beside b v not db fb)
  ]

  -- a clean routing stays clean
  pub clean_grown : Takes r x w → IsClean r → IsClean (grown r x w)
  clean_grown takes clean = record {
    one_driver = λ v a b ca cb. elim (drives_either a v ca.0) [
      | inl ea ↦ elim (drives_either b v cb.0) [
        | inl eb ↦ sym ea.0 ∙ eb.0
        | inr db ↦ absurd (takes.undriven b (subst (λ z. Drives r b z) (sym ea.1) db))
      ]
      | inr da ↦ elim (drives_either b v cb.0) [
        | inl eb ↦ absurd (takes.undriven a (subst (λ z. Drives r a z) (sym eb.1) da))
        | inr db ↦ one_of_both takes clean v a b da db ca.1 cb.1
      ]
    ];
    outputs_undriven = λ v a out ca. elim (drives_either a v ca.0) [
      | inl e ↦ takes.unfed v (subst (λ z. Below r w z) e.1 here) (v, record { output = out; reach = here })
      | inr d ↦ elim (fed_either a ca.1) [
        | inl f ↦ clean.outputs_undriven v a out (d, f)
        | inr b ↦ takes.unfed v (onto b d) (v, record { output = out; reach = here })
      ]
    ];
  }

  -- the rows are those of the grown routing
  pub drivers_grown : (drivers : List (List ℕ)) → HasDrivers r drivers → w < length drivers → HasDrivers (grown r x w) (pushed drivers w x)
  drivers_grown drivers has below v a = (
    (λ d. elim (drives_either a v d) [ inl e ↦ pushed_has drivers w x below v a e.1 e.0 | inr o ↦ pushed_keeps drivers w x below v a ((has v a).0 o) ]),
    (λ i. elim (pushed_from drivers w x below v a i) [ inl o ↦ inr ((has v a).1 o) | inr e ↦ drives_new a v e.1 e.0 ]),
  )

  pub next_grown : (next : List (List ℕ)) → HasNext r next → x < length next → HasNext (grown r x w) (pushed next x w)
  next_grown next has below a v = (
    (λ d. elim (drives_either a v d) [ inl e ↦ pushed_has next x w below a v e.0 e.1 | inr o ↦ pushed_keeps next x w below a v ((has a v).0 o) ]),
    (λ i. elim (pushed_from next x w below a v i) [ inl o ↦ inr ((has a v).1 o) | inr e ↦ drives_new a v e.0 e.1 ]),
  )

  module _ (drivers next : List (List ℕ)) (feeds : List (Option ℕ)) (joined : IsJoined r drivers next feeds) (takes : Takes r x w) (c : ℕ) (feed : get_or feeds x None ≡ Some c)
      (sink_below : w < length drivers) where
    pub source_below : x < length next
    source_below = let b = fed_below feeds x c feed in let n = joined.next_long in let f = joined.feeds_long in omega arith

    feed_below_long : w < length feeds
    feed_below_long = let f = joined.feeds_long in omega arith

    -- the sink has no feed yet
    pub sink_unfed : get_or feeds w None ≡ None
    sink_unfed = elim (feed_or_none feeds w) [
      | inl f ↦ absurd (takes.unfed w here (f.0, joined.feeds_are.fed w f.0 f.1))
      | inr none ↦ none
    ]

    next_is_fed : (v d : ℕ) → get_or feeds v None ≡ Some d → (u : ℕ) → Leads next v u → IsFed feeds u
    next_is_fed v d h u leads = elim (feed_or_none feeds u) [
      | inl f ↦ f
      | inr none ↦ absurd (joined.feeds_are.unfed u none (d, feeds_on r d v u (joined.feeds_are.fed v d h) ((joined.has_next v u).1 leads)))
    ]

    still_fed : (u : ℕ) → IsFed feeds u → IsFed (set feeds w (Some c)) u
    still_fed u f = (f.0, keeps_feed feeds w c None sink_unfed u f.0 f.1)

    is_reached : (v d : ℕ) → Feeds r d v → IsReached (pushed next x w) r.outputs d v
    is_reached v d f = record { output = f.output; reach = reaches_by (λ a b s. pushed_keeps next x w source_below a b ((joined.has_next a b).0 s)) f.reach }

    -- the walk from the sink begins
    pub walk_begins : Walk (pushed next x w) r.outputs (length (pushed next x w)) (set feeds w (Some c)) (record { wire = w; feed = c } ∷ [])
    walk_begins = record {
      long = length-set feeds w (Some c) ∙ (joined.feeds_long ∙ (sym joined.next_long ∙ sym (length-set next x (get_or next x [] ++ w ∷ []))));
      reached = λ v d h. elim (feed_from feeds w c None sink_unfed feed_below_long v d h) [
        | inl old ↦ is_reached v d (joined.feeds_are.fed v d old)
        | inr new ↦ (let f = is_reached x c (joined.feeds_are.fed x c feed) in
            let now : IsReached (pushed next x w) r.outputs c w = record { output = f.output; reach = onto f.reach (pushed_has next x w source_below x w refl refl) } in
            subst (λ z. IsReached (pushed next x w) r.outputs z v) new.1 (subst (λ z. IsReached (pushed next x w) r.outputs c z) (sym new.0) now))
      ];
      spread = λ v d h. elim (feed_from feeds w c None sink_unfed feed_below_long v d h) [
        | inl old ↦ inr (inr (λ u leads. elim (pushed_from next x w source_below v u leads) [
          | inl o ↦ still_fed u (next_is_fed v d old u o)
          | inr n ↦ subst (IsFed (set feeds w (Some c))) n.1 (fed_now feeds w c None sink_unfed feed_below_long)
        ]))
        | inr new ↦ inr (inl (record { wire = w; feed = c }, (inl refl, sym new.0)))
      ];
      held = λ f i. elim i [
        | inl e ↦ subst (λ (g : FedWire). get_or (set feeds w (Some c)) g.wire None ≡ Some g.feed) e (get_or-set_same feeds w (Some c) None feed_below_long)
        | inr none ↦ absurd none
      ];
      own = λ o i. keeps_feed feeds w c None sink_unfed o o (joined.feeds_are.own o i);
    }

    pub within_grown : AreRowsWithin (pushed next x w)
    within_grown a v i =
        let l = length-set next x (get_or next x [] ++ w ∷ []) in
        let n = joined.next_long in
        elim (pushed_from next x w source_below a v i) [
          | inl o ↦ (let b = joined.within a v o in omega arith)
          | inr e ↦ (let b : w < length drivers = sink_below in let s = e.1 in omega arith)
        ]

    -- all is in step again once the walk has ended
    pub grows : (fed : List (Option ℕ)) → length fed ≡ length feeds → Walk (pushed next x w) r.outputs (length (pushed next x w)) fed []
        → IsJoined (grown r x w) (pushed drivers w x) (pushed next x w) fed
    grows fed long walk = record {
      few = let f = joined.few in let l = length-set drivers w (get_or drivers w [] ++ x ∷ []) in omega arith;
      next_long = length-set next x (get_or next x [] ++ w ∷ []) ∙ (joined.next_long ∙ sym (length-set drivers w (get_or drivers w [] ++ x ∷ [])));
      feeds_long = long ∙ (joined.feeds_long ∙ sym (length-set drivers w (get_or drivers w [] ++ x ∷ [])));
      rising = λ v. elim (cases_eq v w) [
        | inl e ↦ (let none = none_in (get_or drivers w []) (λ y i. takes.undriven y ((joined.has_drivers w y).1 i)) in
            subst (IsRising nat_cmp) (sym (ap (λ z. get_or (pushed drivers w x) z []) e ∙ (pushed_row drivers w x sink_below ∙ ap (λ (row : List ℕ). row ++ x ∷ []) none))) ((λ y i. absurd i), tt))
        | inr other ↦ subst (IsRising nat_cmp) (sym (pushed_other drivers w x v other)) (joined.rising v)
      ];
      once = λ a. elim (cases_eq a x) [
        | inl e ↦ subst HasNoneTwice (sym (ap (λ z. get_or (pushed next x w) z []) e ∙ pushed_row next x w source_below))
            (once_push (get_or next x []) w (joined.once x) (λ i. takes.undriven x ((joined.has_next x w).1 i)))
        | inr other ↦ subst HasNoneTwice (sym (pushed_other next x w a other)) (joined.once a)
      ];
      within = within_grown;
      has_drivers = drivers_grown drivers joined.has_drivers sink_below;
      has_next = next_grown next joined.has_next source_below;
      feeds_are = walk_feeds (pushed next x w) r.outputs fed walk (grown r x w) (next_grown next joined.has_next source_below) refl;
      clean = clean_grown takes joined.clean;
    }
