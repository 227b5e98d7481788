-- The four wires of the square, with the arcs into each of them, and the rules of a net over them.
use Rattle.std.specs.Prelude.{ℕ, Bool, true, false, List, [], ◌∷◌, slice_get, unwrap_or}
use Rattle.net_links.specs.Nets.{Network, NetRules}
use Rattle.path_examples.specs.Square.{square, rules, tree}

abbrev pub network : Network
network = record {
  wiring = square;
  ins = λ w. unwrap_or (slice_get ([] ∷ (0 ∷ []) ∷ (2 ∷ []) ∷ (1 ∷ 3 ∷ []) ∷ []) w) [];
}

-- b weighs as is said, the others 1; d may be entered or not; the tree is a alone
abbrev pub net_rules : ℕ → Bool → NetRules
net_rules b into_d = record {
  weight = (rules b into_d).weight;
  enterable = λ w. unwrap_or (slice_get (true ∷ true ∷ true ∷ into_d ∷ []) w) false;
  takes = λ a. true;
  next = λ w. [];
  drivers = λ w. [];
  tree = tree;
  roots = tree;
}
