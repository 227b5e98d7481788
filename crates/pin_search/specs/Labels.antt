-- Labels of wires. A label tells of a list of arcs that leads from a wire on to the pin: what it weighs, and the first
-- of its arcs. Labels are ordered by the weight, then by the first arc: as one number, they are ordered as numbers.
use Rattle.std.specs.Prelude.{◌≡◌, ℕ, ◌+◌, ◌*◌, ◌/◌, ◌%◌, ◌<◌, ◌≤◌, List, [], ◌∷◌, true, slice_index}
use Rattle.paths.specs.Roads.{IsBelow}
use Rattle.paths.specs.Wiring.{IsArcOf, roads_of}
use Rattle.paths.specs.Paths.{weight_of}
use Rattle.net_links.specs.Nets.{Network, NetRules, rules_of}

-- more than any arc's number and one
abbrev pub arcs_end : ℕ
arcs_end = 8589934592

-- the label of a weight and of a first arc's number and one, or 0 where there is no arc
abbrev pub label_of : ℕ → ℕ → ℕ
label_of weight first = weight * arcs_end + first

abbrev pub weight_in : ℕ → ℕ
weight_in label = label / arcs_end

abbrev pub first_in : ℕ → ℕ
first_in label = label % arcs_end

-- what no list of arcs that a search comes to has: the label of a wire that it hasn't come to
abbrev pub far : ℕ
far = 18446744073709551615 * 8589934592

-- an arc that may be taken
abbrev pub IsTaken : Network → NetRules → ℕ → Type 0
IsTaken g n a = IsArcOf g.wiring a × ((rules_of g n).usable a ≡ true)

-- the label of a list of arcs that begins with an arc, where the sink of the arc has a label
abbrev pub label_by : Network → NetRules → ℕ → ℕ → ℕ
label_by g n label a = label_of (weight_in label + n.weight (g.wiring.sink a)) (a + 1)

-- the label of a list of arcs
abbrev pub label_for : Network → NetRules → List ℕ → ℕ
label_for g n [] = 0
label_for g n (a ∷ rest) = label_of (weight_of (roads_of g.wiring (rules_of g n)) n.weight (a ∷ rest)) (a + 1)

-- x lies below w
abbrev pub Below : Network → NetRules → ℕ → ℕ → Type 0
Below g n w x = IsBelow (roads_of g.wiring (rules_of g n)) w x

-- the arc leads on from w, and the rest of its label is that of its sink or more
pub record GoesOn (g : Network) (n : NetRules) (labels : List ℕ) (w label a : ℕ) : Type 0 where
  pub taken : IsTaken g n a
  pub below : Below g n w (g.wiring.source a)
  pub small : a < 4294967296
  pub near : slice_index labels (g.wiring.sink a) < far
  pub weight : weight_in (slice_index labels (g.wiring.sink a)) + n.weight (g.wiring.sink a) ≤ weight_in label

-- what a label of w stands for: the pin is below w, or an arc leads on
pub record Stands (g : Network) (n : NetRules) (pin : ℕ) (labels : List ℕ) (w label : ℕ) : Type 0 where
  pub ends : first_in label ≡ 0 → Below g n w pin
  pub goes : (a : ℕ) → first_in label ≡ a + 1 → GoesOn g n labels w label a
