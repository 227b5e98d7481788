-- The parts of a check make up a cut with its rim.
use Rattle.std.proofs.Common.{◌≡◌, ℕ, ◌<◌, ◌↔◌, inl, inr, Bool, true, false, List, refl, sym, subst, ap, ◌∙◌, cond}
use Rattle.std.specs.List.Sorted.{IsStrictlyIncreasing}
use Rattle.std.proofs.lemmas.Bool.{cases_Bool, false≢true, true≢false}
use Rattle.words.specs.Members.{In}
use Rattle.links.specs.Links.{here, onto}
use Rattle.links.proofs.Members.{is_in, same_number}
use Rattle.paths.specs.Roads.{IsBelow}
use Rattle.paths.specs.Wiring.{Wiring, Rules, roads_of}
use Rattle.net_links.specs.Nets.{Network, NetRules, IsNet, rules_of}
use Rattle.net_links.proofs.Listed.{listed_arc}
use Rattle.route_cut.specs.Checked.{IsCutWithRim, IsKept, IsEntered, StaysWithin, IsShutEdge}

-- what the tests find
pub record IsTested (g : Wiring) (r : Rules) (tree inside rim : List ℕ) (pin : ℕ) : Type 0 where
  pub inside_rises : IsStrictlyIncreasing inside
  pub rim_rises : IsStrictlyIncreasing rim
  pub below : (w : ℕ) → In inside w → w < g.wires
  pub tree_in : (w : ℕ) → In tree w → In inside w
  pub pin_out : In inside pin → ⊥
  pub apart : (w : ℕ) → In rim w → In inside w → ⊥
  pub kept : (w : ℕ) → In inside w → IsKept g r inside rim w
  pub entered : (w : ℕ) → In rim w → IsEntered g inside w

pub tested_is_cut : (g : Wiring) (r : Rules) (tree inside rim : List ℕ) (pin : ℕ) → IsTested g r tree inside rim pin → IsCutWithRim g r tree inside rim pin
tested_is_cut g r tree inside rim pin t = record {
  cut = record {
    tree = t.tree_in;
    pin_out = t.pin_out;
    links = λ w x i l. (t.kept w i).links x l;
    arcs = λ a m i. elim ((t.kept (g.source a) i).arcs a m.0.listed) [
      | inl in_side ↦ in_side
      | inr out ↦ absurd (true≢false (sym m.1 ∙ out.0))
    ];
  };
  below = t.below;
  inside_in_order = t.inside_rises;
  rim_members = λ w. (
    (λ i. let e = t.entered w i in record { outside = t.apart w i; arc = e.arc; is_arc = e.is_arc; from = e.from; to = e.to }),
    (λ h. elim ((t.kept (g.source h.arc) h.from).arcs h.arc h.is_arc.listed) [
      | inl in_side ↦ absurd (h.outside (subst (In inside) h.to in_side))
      | inr out ↦ subst (In rim) h.to out.1
    ]),
  );
  rim_in_order = t.rim_rises;
}

module _ (g : Network) (n : NetRules) (net : IsNet g n) where
  taken_where : (a : ℕ) → n.enterable (g.wiring.sink a) ≡ true → n.takes a ≡ true → (rules_of g n).usable a ≡ true
  taken_where a e t = ap (λ (b : Bool). cond b (n.takes a) false) e ∙ t

  not_taken_where : (a : ℕ) → (n.enterable (g.wiring.sink a) ≡ true → n.takes a ≡ true → ⊥) → (rules_of g n).usable a ≡ false
  not_taken_where a h = elim (cases_Bool (n.enterable (g.wiring.sink a))) as (λ _. (rules_of g n).usable a ≡ false) [
    | inl e ↦ elim (cases_Bool (n.takes a)) as (λ _. (rules_of g n).usable a ≡ false) [
      | inl t ↦ absurd (h e t)
      | inr f ↦ ap (λ (b : Bool). cond b (n.takes a) false) e ∙ f
    ]
    | inr f ↦ ap (λ (b : Bool). cond b (n.takes a) false) f
  ]

  -- links lead to all of the tree from its roots
  pub tree_within : (inside : List ℕ) → ((w x : ℕ) → In inside w → In (n.next w) x → In inside x) → ((w : ℕ) → In n.roots w → In inside w) → (w : ℕ) → In n.tree w → In inside w
  tree_within inside links roots w i = let r = net.rooted w i in stays r.root w (roots r.root r.is_root) r.leads
    where
      stays : (v x : ℕ) → In inside v → {y : ℕ} → IsBelow (roads_of g.wiring (rules_of g n)) v y → In inside y
      stays v x i here = i
      stays v x i (onto {b} {c} q s) = links b c (stays v x i q) s

  module _ (inside rim : List ℕ) (pin : ℕ) (cut : IsCutWithRim g.wiring (rules_of g n) n.tree inside rim pin) where
    pub cut_roots : (w : ℕ) → In n.roots w → In inside w
    cut_roots w i = cut.cut.tree w (net.roots w i)

    pub cut_rim_below : (w : ℕ) → In rim w → w < g.wiring.wires
    cut_rim_below w i = let h = (cut.rim_members w).0 i in subst (λ z. z < g.wiring.wires) h.to (net.wiring.sinks h.arc h.is_arc)

    pub cut_stays : (w : ℕ) → In inside w → StaysWithin g.wiring n inside rim w
    cut_stays w i = record {
      links = λ x l. cut.cut.links w x i l;
      arcs = λ a l.
          let below = cut.below w i in
          let arc = listed_arc g.wiring w a net.wiring below l in
          elim (is_in same_number inside (g.wiring.sink a)) [
            | inl j ↦ inl j
            | inr out ↦ inr ((cut.rim_members (g.wiring.sink a)).1 (record { outside = out; arc = a; is_arc = arc; from = subst (In inside) (sym (net.wiring.own w a below l)) i; to = refl }))
          ];
    }

    pub cut_shut : (w : ℕ) → In rim w → IsShutEdge g n inside w
    cut_shut w i =
        let h = (cut.rim_members w).0 i in
        let below = cut_rim_below w i in record {
          entered = record { arc = h.arc; listed = (net.ins w h.arc below).1 (h.is_arc, h.to); from = h.from };
          shut = λ e a l p. let k = (net.ins w a below).0 l in
              h.outside (subst (In inside) k.1 (cut.cut.arcs a (k.0, taken_where a (ap n.enterable k.1 ∙ e) p.1) p.0));
        }

  -- what the tests of a net's cut find
  pub record IsNetTested (inside rim : List ℕ) (pin : ℕ) : Type 0 where
    pub inside_rises : IsStrictlyIncreasing inside
    pub rim_rises : IsStrictlyIncreasing rim
    pub below : (w : ℕ) → In inside w → w < g.wiring.wires
    pub rim_below : (w : ℕ) → In rim w → w < g.wiring.wires
    pub roots_in : (w : ℕ) → In n.roots w → In inside w
    pub pin_out : In inside pin → ⊥
    pub apart : (w : ℕ) → In rim w → In inside w → ⊥
    pub stays : (w : ℕ) → In inside w → StaysWithin g.wiring n inside rim w
    pub shut : (w : ℕ) → In rim w → IsShutEdge g n inside w

  pub net_tested_is_cut : (inside rim : List ℕ) (pin : ℕ) → IsNetTested inside rim pin → IsCutWithRim g.wiring (rules_of g n) n.tree inside rim pin
  net_tested_is_cut inside rim pin t = tested_is_cut g.wiring (rules_of g n) n.tree inside rim pin (record {
    inside_rises = t.inside_rises;
    rim_rises = t.rim_rises;
    below = t.below;
    tree_in = tree_within inside (λ w x i l. (t.stays w i).links x l) t.roots_in;
    pin_out = t.pin_out;
    apart = t.apart;
    kept = λ w i. record {
      links = (t.stays w i).links;
      arcs = λ a l.
          let arc = listed_arc g.wiring w a net.wiring (t.below w i) l in
          let from : In inside (g.wiring.source a) = subst (In inside) (sym (net.wiring.own w a (t.below w i) l)) i in
          elim ((t.stays w i).arcs a l) [
            | inl j ↦ inl j
            | inr j ↦ inr (not_taken_where a (λ e u. (t.shut (g.wiring.sink a) j).shut e a ((net.ins (g.wiring.sink a) a (t.rim_below (g.wiring.sink a) j)).1 (arc, refl)) (from, u)), j)
          ];
    };
    entered = λ w i. let e = (t.shut w i).entered in let k = (net.ins w e.arc (t.rim_below w i)).0 e.listed in record { arc = e.arc; is_arc = k.0; from = e.from; to = k.1 };
  })

-- a test that fails refuses
pub refused : {P Q : Type 0} (b : Bool) → (Q → b ≡ true) → b ≡ false → (P → Q) → (false ≡ true) ↔ P
refused b h e f = ((λ x. absurd (false≢true x)), (λ p. absurd (true≢false (sym (h (f p)) ∙ e))))
