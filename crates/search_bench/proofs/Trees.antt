-- Wires of a tree, listed and placed.
use Rattle.std.proofs.Common.{◌≡◌, ℕ, ◌+◌, ◌-◌, ◌<◌, ◌↔◌, List, length, get_or, sym, subst, ap, ◌∙◌, arith}
use Rattle.words.specs.Members.{In}
use Rattle.net_links.proofs.Listed.{in_at, place_of}
use Rattle.search_bench.specs.Grids.{IsTree}

pub tree_below : (places tree : List ℕ) → IsTree places tree → (w : ℕ) → In tree w → w < length places
tree_below places tree t w i = let p = place_of tree w i in subst (λ z. z < length places) p.is (t.listed p.place p.below).0

pub in_tree : (places tree : List ℕ) (w : ℕ) → IsTree places tree → w < length places → (0 < get_or places w 0) ↔ In tree w
in_tree places tree w t h = (
  (λ l. let k = t.known w h l in let a = k.0 in subst (In tree) k.1 (in_at tree (get_or places w 0 - 1) (omega arith))),
  (λ i. let p = place_of tree w i in let e = ap (λ z. get_or places z 0) (sym p.is) ∙ (t.listed p.place p.below).1 in let g : get_or places w 0 ≡ p.place + 1 = e in omega arith),
)
