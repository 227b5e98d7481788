-- The walk along the arcs that labels name.
use Rattle.std.proofs.Common.{◌≡◌, ℕ, ◌+◌, ◌≤◌, ◌<◌, List, [], ◌∷◌, ◌++◌, get_or, sym, subst, ap, ◌∙◌, append_assoc}
use Rattle.net_links.specs.Nets.{Network, NetRules}
use Rattle.pin_search.specs.Labels.{far, weight_in, first_in, IsTaken}
use Rattle.pin_search.specs.Searches.{IsSearched}
use Rattle.pin_search.specs.Fronts.{Follows}

-- the arc that a label names, and the label of its sink
pub record Onward (g : Network) (n : NetRules) (labels : List ℕ) (label a : ℕ) : Type 0 where
  pub taken : IsTaken g n a
  pub small : a < 4294967296
  pub near : get_or labels (g.wiring.sink a) 0 < far
  pub weight : weight_in (get_or labels (g.wiring.sink a) 0) + n.weight (g.wiring.sink a) ≤ weight_in label

abbrev pub HasOnward : Network → NetRules → List ℕ → ℕ → Type 0
HasOnward g n labels label = (a : ℕ) → first_in label ≡ a + 1 → Onward g n labels label a

pub best_onward : (g : Network) (n : NetRules) (pin : ℕ) (labels : List ℕ) (best : ℕ) → IsSearched g n pin labels best → best < far → HasOnward g n labels best
best_onward g n pin labels best s near a e = let j = s.best_is.joins near a e in record { taken = j.taken; small = j.small; near = j.near; weight = j.weight }

pub label_onward : (g : Network) (n : NetRules) (pin : ℕ) (labels : List ℕ) (best w label : ℕ) → IsSearched g n pin labels best → w < g.wiring.wires → get_or labels w 0 < far → label ≡ get_or labels w 0 → HasOnward g n labels label
label_onward g n pin labels best w label s ww near e = subst (HasOnward g n labels) (sym e) (λ a f. let h = (s.stands w ww near).goes a f in record { taken = h.taken; small = h.small; near = h.near; weight = h.weight })

-- what follows from here on follows from the start on
abbrev pub Rest : Network → List ℕ → ℕ → List ℕ → ℕ → Type 0
Rest g labels first arcs label = (rest : List ℕ) → Follows g labels (first_in label) rest → Follows g labels first (arcs ++ rest)

pub one_more : (g : Network) (labels : List ℕ) (first label next a : ℕ) (arcs now : List ℕ) → Rest g labels first arcs label → first_in label ≡ a + 1 → now ≡ arcs ++ a ∷ [] → next ≡ get_or labels (g.wiring.sink a) 0 → Rest g labels first now next
one_more g labels first label next a arcs now r e en el rest f =
    subst (Follows g labels first) (sym (ap (λ xs. xs ++ rest) en ∙ append_assoc arcs (a ∷ []) rest))
    (r (a ∷ rest) (e, subst (λ v. Follows g labels (first_in v) rest) el f))
