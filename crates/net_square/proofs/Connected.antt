-- The four wires and the rules of a net over them go together.
use Rattle.std.proofs.Common.{◌≡◌, ℕ, ◌<◌, ◌↔◌, Bool, List, [], ◌∷◌, zero, suc, inl, inr, refl, sym, subst, arith, rules}
use Rattle.words.specs.Members.{In}
use Rattle.links.specs.Links.{here}
use Rattle.paths.specs.Wiring.{IsArcOf, IsWiring, IsRules, IsTree}
use Rattle.net_links.specs.Nets.{IsConnection, IsNet, RootOf, rules_of}
use Rattle.path_examples.specs.Square.{square}
use Rattle.net_square.specs.Nets.{network, net_rules}

is_wired : IsWiring square
is_wired = search rules

into : (w a : ℕ) → In (network.ins w) a → IsArcOf square a × (square.sink a ≡ w)
into zero a h = absurd h
into (suc zero) a h = elim h [
  | inl e ↦ subst (λ z. IsArcOf square z × (square.sink z ≡ 1)) e (record { below = omega arith; listed = inl refl }, refl)
  | inr n ↦ absurd n
]
into (suc (suc zero)) a h = elim h [
  | inl e ↦ subst (λ z. IsArcOf square z × (square.sink z ≡ 2)) e (record { below = omega arith; listed = inr (inl refl) }, refl)
  | inr n ↦ absurd n
]
into (suc (suc (suc zero))) a h = elim h [
  | inl e ↦ subst (λ z. IsArcOf square z × (square.sink z ≡ 3)) e (record { below = omega arith; listed = inl refl }, refl)
  | inr j ↦ elim j [
    | inl e ↦ subst (λ z. IsArcOf square z × (square.sink z ≡ 3)) e (record { below = omega arith; listed = inl refl }, refl)
    | inr n ↦ absurd n
  ]
]
into (suc (suc (suc (suc n)))) a h = absurd h

listed : (a : ℕ) → IsArcOf square a → In (network.ins (square.sink a)) a
listed zero h = inl refl
listed (suc zero) h = inl refl
listed (suc (suc zero)) h = inl refl
listed (suc (suc (suc zero))) h = inr (inl refl)
listed (suc (suc (suc (suc n)))) h = elim h.listed [
  | inl e ↦ absurd (omega arith)
  | inr j ↦ elim j [ inl e ↦ absurd (omega arith) | inr k ↦ absurd k ]
]

few : (a : ℕ) → IsArcOf square a → a < 4294967296
few zero h = omega arith
few (suc zero) h = omega arith
few (suc (suc zero)) h = omega arith
few (suc (suc (suc zero))) h = omega arith
few (suc (suc (suc (suc n)))) h = elim h.listed as (λ _. suc (suc (suc (suc n))) < 4294967296) [
  | inl e ↦ absurd (omega arith)
  | inr j ↦ elim j as (λ _. suc (suc (suc (suc n))) < 4294967296) [ inl e ↦ absurd (omega arith) | inr k ↦ absurd k ]
]

weighs : (b : ℕ) (into_d : Bool) → 0 < b → (w : ℕ) → w < 4 → 0 < (net_rules b into_d).weight w
weighs b into_d h zero l = omega arith
weighs b into_d h (suc zero) l = h
weighs b into_d h (suc (suc zero)) l = omega arith
weighs b into_d h (suc (suc (suc zero))) l = omega arith
weighs b into_d h (suc (suc (suc (suc n)))) l = absurd (omega arith)

pub connected : (b : ℕ) (into_d : Bool) → 0 < b → IsConnection network (net_rules b into_d) 3
connected b into_d h = record {
  net = record {
    wiring = is_wired;
    ins = λ w a l. (into w a, (λ k. subst (λ z. In (network.ins z) a) k.1 (listed a k.0)));
    small = few;
    rules = record { weights = weighs b into_d h; nexts = λ w x l i. absurd i };
    drivers = λ w x l. ((λ i. absurd i), (λ k. absurd k.1));
    tree = record {
      below = λ w i. elim i [ inl e ↦ (let k : 0 ≡ w = e in omega arith) | inr n ↦ absurd n ];
      closed = λ w x i l. absurd l;
    };
    roots = λ w i. i;
    rooted = λ w i. record { root = w; is_root = i; leads = here };
  };
  pin_is_wire = omega arith;
}
