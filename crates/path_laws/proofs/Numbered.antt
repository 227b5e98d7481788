-- The arcs and rules that a program holds are finite and can be tested.
use Rattle.std.proofs.Common.{◌≡◌, ℕ, ◌<◌, ◌↔◌, inl, inr, Bool, true, false, List, [], ◌∷◌, zero, suc, refl, sym, subst, arith}
use Rattle.std.proofs.lemmas.Bool.{cases_lt}
use Rattle.std.specs.List.{flat_map}
use Rattle.std.specs.Cmp.{nat_cmp_total}
use Rattle.words.specs.Members.{In}
use Rattle.words.proofs.Decided.{Decided, both, decided_by}
use Rattle.links.proofs.Members.{in_flat_map, of_flat_map, is_in, same_number}
use Rattle.paths.specs.Wiring.{Wiring, Rules, IsArcOf, IsWiring, IsRules, IsTree, roads_of}
use Rattle.path_laws.proofs.Search.{IsFinite}

-- the numbers below n
abbrev pub numbers : ℕ → List ℕ
numbers zero = []
numbers (suc n) = n ∷ numbers n

pub in_numbers : (n w : ℕ) → w < n → In (numbers n) w
in_numbers zero w l = absurd (omega arith)
in_numbers (suc n) w l = elim (cases_lt w n) as (λ _. In (numbers (suc n)) w) [ inl k ↦ inr (in_numbers n w k) | inr k ↦ inl (omega arith) ]

pub of_numbers : (n w : ℕ) → In (numbers n) w → w < n
of_numbers zero w i = absurd i
of_numbers (suc n) w i = elim i [ inl e ↦ omega arith | inr j ↦ (let l = of_numbers n w j in omega arith) ]

below_or_not : (m n : ℕ) → Decided (m < n)
below_or_not m n = elim (cases_lt m n) as (λ _. Decided (m < n)) [ inl l ↦ inl l | inr l ↦ inr (λ h. let no : ⊥ = omega arith in no) ]

is_true : (b : Bool) → Decided (b ≡ true)
is_true true = inl refl
is_true false = inr (λ e. let no : ⊥ = cc in no)

module _ (g : Wiring) (r : Rules) (tree : List ℕ) (wiring : IsWiring g) (rules : IsRules g r) (is_tree : IsTree g r tree) where
  abbrev pub all_arcs : List ℕ
  all_arcs = flat_map g.outs (numbers g.wires)

  is_arc : (a : ℕ) → Decided (IsArcOf g a)
  is_arc a = decided_by (λ h. record { below = h.0; listed = h.1 }) (λ h. (h.below, h.listed)) (both (below_or_not (g.source a) g.wires) (is_in same_number (g.outs (g.source a)) a))

  arcs_are : (a : ℕ) → IsArcOf g a ↔ In all_arcs a
  arcs_are a = (
    (λ h. in_flat_map g.outs (numbers g.wires) (g.source a) a (in_numbers g.wires (g.source a) h.below) h.listed),
    (λ i. (let k = of_flat_map g.outs (numbers g.wires) a i in
        let l = of_numbers g.wires k.0 k.1.0 in
        let own : g.source a ≡ k.0 = wiring.own k.0 a l k.1.1 in
        record { below = subst (λ w. w < g.wires) (sym own) l; listed = subst (λ w. In (g.outs w) a) (sym own) k.1.1 })),
  )

  pub finite : IsFinite (roads_of g r) r.weight (In tree) tree (numbers g.wires) all_arcs
  finite = record {
    may = λ a. both (is_arc a) (is_true (r.usable a));
    arcs_listed = arcs_are;
    may_is_arc = λ a m. m.0;
    linked = λ w x. is_in same_number (r.next w) x;
    tree_listed = λ w. ((λ i. i), (λ i. i));
    tree_in = λ w i. in_numbers g.wires w (is_tree.below w i);
    links_in = λ w x i l. in_numbers g.wires x (rules.nexts w x (of_numbers g.wires w i) l);
    sinks_in = λ a m. in_numbers g.wires (g.sink a) (wiring.sinks a m.0);
    closed = is_tree.closed;
    heavy = λ a m. (let h = rules.weights (g.sink a) (wiring.sinks a m.0) in omega arith);
    total = nat_cmp_total;
  }
