-- What labels say once the search is over: the first of the least paths, or that there is none.
use Rattle.std.proofs.Common.{◌≡◌, ◌≢◌, ℕ, ◌+◌, ◌≤◌, ◌<◌, List, [], ◌∷◌, get_or, sym, subst, ap, refl, arith, ◌⊎◌, inl, inr}
use Rattle.std.proofs.lemmas.Bool.{cases_eq}
use Rattle.std.specs.declared.cmp.Ordering.TheVariants.{Less, Equal, Greater}
use Rattle.std.specs.Ordering.{nat_cmp, ordering_then}
use Rattle.std.specs.Cmp.{nat_cmp_is}
use Rattle.std.specs.Cmp.Lexicographic.{slice_cmp}
use Rattle.words.specs.Members.{In}
use Rattle.links.specs.Links.{here, onto}
use Rattle.paths.specs.Wiring.{roads_of}
use Rattle.paths.specs.Paths.{LeadsOn, IsPath, weight_of}
use Rattle.net_links.specs.Nets.{Network, NetRules, IsNet, rules_of}
use Rattle.pin_search.specs.Labels.{far, arcs_end, weight_in, first_in, label_of, label_by, label_for, IsTaken, Below}
use Rattle.pin_search.specs.Searches.{AtMost, IsSearched}
use Rattle.pin_search.specs.Fronts.{Follows, HasNoPath, IsPathOfWeight}
use Rattle.pin_search.proofs.Falling.{at_most_more, weight_up}
use Rattle.pin_search.proofs.Taking.{weight_of_label}

-- what a search leaves, over rules that go with the arcs
pub record Final (g : Network) (n : NetRules) (pin : ℕ) (labels : List ℕ) (best : ℕ) : Type 0 where
  pub net : IsNet g n
  pub wire : pin < g.wiring.wires
  pub searched : IsSearched g n pin labels best

module _ (g : Network) (n : NetRules) (pin : ℕ) (labels : List ℕ) (best : ℕ) (f : Final g n pin labels best) where
  abbrev weigh : List ℕ → ℕ
  weigh path = weight_of (roads_of g.wiring (rules_of g n)) n.weight path

  abbrev Leads : ℕ → List ℕ → Type 0
  Leads w path = LeadsOn (roads_of g.wiring (rules_of g n)) w path pin

  abbrev Low : ℕ → ℕ → Type 0
  Low w label = AtMost n labels best w label

  pin_near : get_or labels pin 0 < far
  pin_near = let e = f.searched.at_pin in omega arith

  below_wire : (s : ℕ) → s < g.wiring.wires → {b : ℕ} → Below g n s b → b < g.wiring.wires
  below_wire s sw here = sw
  below_wire s sw (onto {b} {c} q l) = f.net.rules.nexts b c (below_wire s sw q) l

  step_back : (b c label : ℕ) → b < g.wiring.wires → c < g.wiring.wires → In (n.next b) c → Low c label → Low b label
  step_back b c label bw cw l h = elim h as (λ _. Low b label) [
    | inl k ↦ elim (f.searched.over c cw k.1) as (λ _. Low b label) [
      | inl sp ↦ at_most_more n labels best b (get_or labels c 0) label k.2 (sp.links b bw l)
      | inr ov ↦ (let x = k.2 in let y = ov.1 in inr (ov.0, (let z : best ≤ label = omega arith in z)))
    ]
    | inr k ↦ inr k
  ]

  low_back : (s label : ℕ) → s < g.wiring.wires → {b : ℕ} → Below g n s b → Low b label → Low s label
  low_back s label sw here h = h
  low_back s label sw (onto {b} {c} q l) h = low_back s label sw q (step_back b c label (below_wire s sw q) (f.net.rules.nexts b c (below_wire s sw q) l) l h)

  number_fits : (a : ℕ) → IsTaken g n a → a + 1 < arcs_end
  number_fits a t = let s = f.net.small a t.0 in omega arith

  label_weight : (w : ℕ) (q : List ℕ) → Leads w q → weight_in (label_for g n q) ≡ weigh q
  label_weight w [] p = refl
  label_weight w (a ∷ q) p = weight_of_label (weigh (a ∷ q)) (a + 1) (number_fits a p.1)

  arc_back : (a : ℕ) (q : List ℕ) → IsTaken g n a → Leads (g.wiring.sink a) q → Low (g.wiring.sink a) (label_for g n q) → Low (g.wiring.source a) (label_for g n (a ∷ q))
  arc_back a q t p h =
      let e = label_weight (g.wiring.sink a) q p in
      let heavy = f.net.rules.weights (g.wiring.sink a) (f.net.wiring.sinks a t.0) in
      elim h as (λ _. Low (g.wiring.source a) (label_for g n (a ∷ q))) [
        | inl k ↦ (let up = weight_up (get_or labels (g.wiring.sink a) 0) (label_for g n q) k.2 in elim (f.searched.over (g.wiring.sink a) (f.net.wiring.sinks a t.0) k.1) as (λ _. Low (g.wiring.source a) (label_for g n (a ∷ q))) [
          | inl sp ↦ at_most_more n labels best (g.wiring.source a) (label_by g n (get_or labels (g.wiring.sink a) 0) a) (label_for g n (a ∷ q)) (omega arith) (sp.arcs a t refl)
          | inr ov ↦ (let y = ov.1 in let u = weight_up best (get_or labels (g.wiring.sink a) 0) y in inr (ov.0, (let z : best ≤ label_for g n (a ∷ q) = omega arith in z)))
        ])
        | inr k ↦ (let u = weight_up best (label_for g n q) k.1 in inr (k.0, (let z : best ≤ label_for g n (a ∷ q) = omega arith in z)))
      ]

  low_from : (s : ℕ) (q : List ℕ) → s < g.wiring.wires → Leads s q → Low s (label_for g n q)
  low_from s [] sw p = low_back s 0 sw p (inl (f.searched.outside pin f.wire pin_near, pin_near, (let e = f.searched.at_pin in let z : get_or labels pin 0 ≤ 0 = omega arith in z)))
  low_from s (a ∷ q) sw p = low_back s (label_for g n (a ∷ q)) sw p.0 (arc_back a q p.1 p.2 (low_from (g.wiring.sink a) q (f.net.wiring.sinks a p.1.0) p.2))

  -- what begins in the tree is no better than the best
  low_top : (b : ℕ) (q : List ℕ) → In n.tree (g.wiring.source b) → IsTaken g n b → Leads (g.wiring.sink b) q → (best < far) × (best ≤ label_for g n (b ∷ q))
  low_top b q tree t p = elim (arc_back b q t p (low_from (g.wiring.sink b) q (f.net.wiring.sinks b t.0) p)) as (λ _. (best < far) × (best ≤ label_for g n (b ∷ q))) [
    | inl k ↦ absurd (k.0 tree)
    | inr k ↦ k
  ]

  top_weight : (b : ℕ) (q : List ℕ) → In n.tree (g.wiring.source b) → IsTaken g n b → Leads (g.wiring.sink b) q → weight_in best ≤ weigh (b ∷ q)
  top_weight b q tree t p =
      let l = low_top b q tree t p in
      let u = weight_up best (label_for g n (b ∷ q)) l.1 in
      let e = weight_of_label (weigh (b ∷ q)) (b + 1) (number_fits b t) in omega arith

  -- what the labels name leads on to the pin, and weighs no more than they say
  follow_leads : (w : ℕ) (p : List ℕ) → w < g.wiring.wires → get_or labels w 0 < far → Follows g labels (first_in (get_or labels w 0)) p → Leads w p × (weigh p ≤ weight_in (get_or labels w 0))
  follow_leads w [] ww near h = ((f.searched.stands w ww near).ends h, omega arith)
  follow_leads w (a ∷ p) ww near h =
      let o = (f.searched.stands w ww near).goes a h.0 in
      let r = follow_leads (g.wiring.sink a) p (f.net.wiring.sinks a o.taken.0) o.near h.1 in
      let x = o.weight in let y = r.1 in
      ((o.below, o.taken, r.0), omega arith)

  follow_tight : (w : ℕ) (p : List ℕ) → w < g.wiring.wires → get_or labels w 0 < far → weight_in (get_or labels w 0) < weight_in best → Follows g labels (first_in (get_or labels w 0)) p → weigh p ≡ weight_in (get_or labels w 0)
  follow_tight w p ww near less h =
      let r = follow_leads w p ww near h in
      let y = r.1 in
      let e = label_weight w p r.0 in
      elim (low_from w p ww r.0) as (λ _. weigh p ≡ weight_in (get_or labels w 0)) [
        | inl k ↦ (let u = weight_up (get_or labels w 0) (label_for g n p) k.2 in omega arith)
        | inr k ↦ (let u = weight_up best (label_for g n p) k.1 in absurd (omega arith))
      ]

  -- the first arcs decide which of two lists comes first
  not_later : (a b : ℕ) (ps bs : List ℕ) → (a < b) ⊎ ((a ≡ b) × (slice_cmp nat_cmp ps bs ≢ Greater)) → slice_cmp nat_cmp (a ∷ ps) (b ∷ bs) ≢ Greater
  not_later a b ps bs (inl l) = subst (λ o. ordering_then o (slice_cmp nat_cmp ps bs) ≢ Greater) (nat_cmp_is a b Less l) (λ e. let no : ⊥ = cc in no)
  not_later a b ps bs (inr h) = subst (λ o. ordering_then o (slice_cmp nat_cmp ps bs) ≢ Greater) (nat_cmp_is a b Equal h.0) h.1

  first_up : (label weight b : ℕ) → weight_in label ≡ weight → label ≤ label_of weight (b + 1) → first_in label ≤ b + 1
  first_up label weight b e l = omega arith

  follow_first : (w : ℕ) (p q : List ℕ) → w < g.wiring.wires → get_or labels w 0 < far → weight_in (get_or labels w 0) < weight_in best → Follows g labels (first_in (get_or labels w 0)) p → Leads w q → weigh q ≡ weight_in (get_or labels w 0)
      → slice_cmp nat_cmp p q ≢ Greater
  follow_first w [] [] ww near less h l e = λ z. let no : ⊥ = cc in no
  follow_first w [] (b ∷ q) ww near less h l e = λ z. let no : ⊥ = cc in no
  follow_first w (a ∷ p) [] ww near less h l e = elim (low_from w [] ww l) as (λ _. slice_cmp nat_cmp (a ∷ p) [] ≢ Greater) [
    | inl k ↦ (let x = k.2 in let y = h.0 in absurd (omega arith))
    | inr k ↦ (let x = k.1 in absurd (omega arith))
  ]
  follow_first w (a ∷ p) (b ∷ q) ww near less h l e =
      let o = (f.searched.stands w ww near).goes a h.0 in
      let sw = f.net.wiring.sinks a o.taken.0 in
      let r = follow_leads (g.wiring.sink a) p sw o.near h.1 in
      let t = follow_tight w (a ∷ p) ww near less h in
      let x = o.weight in let y = r.1 in let z = h.0 in
      let heavy = f.net.rules.weights (g.wiring.sink a) sw in
      let fits = weight_of_label (weigh (b ∷ q)) (b + 1) (number_fits b l.1) in
      let le : a ≤ b = elim (low_from w (b ∷ q) ww l) as (λ _. a ≤ b) [
        | inl k ↦ (let u = first_up (get_or labels w 0) (weigh (b ∷ q)) b (sym e) k.2 in omega arith)
        | inr k ↦ (let u = weight_up best (label_for g n (b ∷ q)) k.1 in absurd (omega arith))
      ] in
      not_later a b p q (elim (cases_eq a b) as (λ _. (a < b) ⊎ ((a ≡ b) × (slice_cmp nat_cmp p q ≢ Greater))) [
        | inl d ↦ (let same : n.weight (g.wiring.sink a) ≡ n.weight (g.wiring.sink b) = ap (λ v. n.weight (g.wiring.sink v)) d in
            inr (d, follow_first (g.wiring.sink a) p q sw o.near (omega arith) h.1 (subst (λ v. Leads (g.wiring.sink v) q) (sym d) l.2) (omega arith)))
        | inr d ↦ inl (let k : a < b = omega arith in k)
      ])

  pub found : (arcs : List ℕ) → best < far → Follows g labels (first_in best) arcs → IsPathOfWeight g n pin arcs (weight_in best)
  found [] near h = let b = f.searched.best_is.first near in absurd (omega arith)
  found (a ∷ p) near h =
      let j = f.searched.best_is.joins near a h.0 in
      let sw = f.net.wiring.sinks a j.taken.0 in
      let r = follow_leads (g.wiring.sink a) p sw j.near h.1 in
      let x = j.weight in let y = r.1 in let z = h.0 in
      let heavy = f.net.rules.weights (g.wiring.sink a) sw in
      let top = top_weight a p j.from_tree j.taken r.0 in
      let e : weight_in best ≡ weigh (a ∷ p) = omega arith in (
        record {
          is_path = (j.from_tree, j.taken, r.0);
          least = least e;
          first = first e j.near sw r.0 x y heavy;
        },
        e,
      )
    where
      least : weight_in best ≡ weigh (a ∷ p) → (other : List ℕ) → IsPath (roads_of g.wiring (rules_of g n)) (In n.tree) other pin → weigh (a ∷ p) ≤ weigh other
      least e [] o = absurd (f.searched.outside pin f.wire pin_near o)
      least e (b ∷ q) o = let t = top_weight b q o.0 o.1 o.2 in omega arith

      first : weight_in best ≡ weigh (a ∷ p) → get_or labels (g.wiring.sink a) 0 < far → g.wiring.sink a < g.wiring.wires → Leads (g.wiring.sink a) p
          → weight_in (get_or labels (g.wiring.sink a) 0) + n.weight (g.wiring.sink a) ≤ weight_in best → weigh p ≤ weight_in (get_or labels (g.wiring.sink a) 0) → 0 < n.weight (g.wiring.sink a)
          → (other : List ℕ) → IsPath (roads_of g.wiring (rules_of g n)) (In n.tree) other pin → weigh other ≡ weigh (a ∷ p) → slice_cmp nat_cmp (a ∷ p) other ≢ Greater
      first e sn sw lp x y heavy [] o same = absurd (f.searched.outside pin f.wire pin_near o)
      first e sn sw lp x y heavy (b ∷ q) o same =
          let t = low_top b q o.0 o.1 o.2 in
          let u = first_up best (weigh (b ∷ q)) b (omega arith) t.1 in
          let z = h.0 in
          not_later a b p q (elim (cases_eq a b) as (λ _. (a < b) ⊎ ((a ≡ b) × (slice_cmp nat_cmp p q ≢ Greater))) [
            | inl d ↦ (let s : n.weight (g.wiring.sink a) ≡ n.weight (g.wiring.sink b) = ap (λ v. n.weight (g.wiring.sink v)) d in
                inr (d, follow_first (g.wiring.sink a) p q sw sn (omega arith) h.1 (subst (λ v. Leads (g.wiring.sink v) q) (sym d) o.2) (omega arith)))
            | inr d ↦ inl (let k : a < b = omega arith in k)
          ])

  pub none_found : far ≤ best → HasNoPath g n pin
  none_found b [] p = f.searched.outside pin f.wire pin_near p
  none_found b (a ∷ q) p = let l = (low_top a q p.0 p.1 p.2).0 in let no : ⊥ = omega arith in no
