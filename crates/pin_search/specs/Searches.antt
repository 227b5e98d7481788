-- What holds while labels spread from the pin. No order of wires is in it: it holds in whatever order they are taken.
use Rattle.std.specs.Prelude.{◌≡◌, ℕ, ◌+◌, ◌*◌, ◌<◌, ◌≤◌, ◌⊎◌, Bool, true, false, List, [], ◌∷◌, length, slice_index, get_or}
use Rattle.std.specs.List.{sum}
use Rattle.words.specs.Members.{In}
use Rattle.net_links.specs.Nets.{Network, NetRules}
use Rattle.wire_queue.specs.Waiting.{Waits}
use Rattle.pin_search.specs.Labels.{far, IsTaken, label_by, weight_in, first_in, Stands}

-- The label of s, which is not in the tree, is no greater than a label; or the best arc out of the tree isn't worse.
abbrev pub AtMost : NetRules → List ℕ → ℕ → ℕ → ℕ → Type 0
AtMost n labels best s label = ((In n.tree s → ⊥) × (slice_index labels s < far) × (slice_index labels s ≤ label))
    ⊎ ((best < far) × (best ≤ label))

-- the wires next to w have what its label gives them: by links to it, and by arcs into it
pub record Spread (g : Network) (n : NetRules) (labels : List ℕ) (best w label : ℕ) : Type 0 where
  pub links : (x : ℕ) → x < g.wiring.wires → In (n.next x) w → AtMost n labels best x label
  pub arcs : (a : ℕ) → IsTaken g n a → g.wiring.sink a ≡ w → AtMost n labels best (g.wiring.source a) (label_by g n label a)

-- a wire with a label waits, or it was spread from, or the best arc out of the tree isn't worse; but the busy wire,
-- which is spread from
abbrev pub Status : Network → NetRules → ℕ → List ℕ → List Bool → ℕ → ℕ → Type 0
Status g n busy labels waiting best w = (w ≡ busy) ⊎ ((get_or waiting w false ≡ true)
    ⊎ (Spread g n labels best w (slice_index labels w) ⊎ ((best < far) × (best ≤ slice_index labels w))))

-- an arc leads from the tree to a wire with a label, and this is the label over it, or more
pub record Joins (g : Network) (n : NetRules) (labels : List ℕ) (best a : ℕ) : Type 0 where
  pub taken : IsTaken g n a
  pub from_tree : In n.tree (g.wiring.source a)
  pub small : a < 4294967296
  pub near : slice_index labels (g.wiring.sink a) < far
  pub weight : weight_in (slice_index labels (g.wiring.sink a)) + n.weight (g.wiring.sink a) ≤ weight_in best

-- a best label that was found names the arc that joins
pub record IsBest (g : Network) (n : NetRules) (labels : List ℕ) (best : ℕ) : Type 0 where
  pub most : best ≤ far
  pub first : best < far → 0 < first_in best
  pub joins : best < far → (a : ℕ) → first_in best ≡ a + 1 → Joins g n labels best a

-- no wire stands twice
abbrev pub IsOnce : List ℕ → Type 0
IsOnce [] = Unit {0}
IsOnce (w ∷ rest) = (In rest w → ⊥) × IsOnce rest

-- a mark says that the wire waits under the weight of its label
abbrev pub IsMarked : List ℕ → List Bool → List (ℕ × ℕ) → ℕ → Type 0
IsMarked labels waiting queue w = get_or waiting w false ≡ true
    → (slice_index labels w < far) × Waits queue (weight_in (slice_index labels w)) w

-- labels so far, of which each stands for a list of arcs; wires with a label were touched, each once
pub record Search (g : Network) (n : NetRules) (pin busy : ℕ) (labels : List ℕ) (waiting : List Bool)
    (queue : List (ℕ × ℕ)) (touched : List ℕ) (best : ℕ) : Type 0 where
  pub labels_len : length labels ≡ g.wiring.wires
  pub waiting_len : length waiting ≡ g.wiring.wires
  pub most : (w : ℕ) → w < g.wiring.wires → slice_index labels w ≤ far
  pub at_pin : slice_index labels pin ≡ 0
  pub outside : (w : ℕ) → w < g.wiring.wires → slice_index labels w < far → In n.tree w → ⊥
  pub stands : (w : ℕ) → w < g.wiring.wires → slice_index labels w < far → Stands g n pin labels w (slice_index labels w)
  pub marked : (w : ℕ) → w < g.wiring.wires → IsMarked labels waiting queue w
  pub queued : (entry : ℕ × ℕ) → In queue entry → entry.1 < g.wiring.wires
  pub status : (w : ℕ) → w < g.wiring.wires → slice_index labels w < far → Status g n busy labels waiting best w
  pub bounded : (w : ℕ) → w < g.wiring.wires → slice_index labels w < far
      → weight_in (slice_index labels w) ≤ length touched * 4294967295
  pub known : (w : ℕ) → w < g.wiring.wires → slice_index labels w < far → In touched w
  pub wires : (w : ℕ) → In touched w → w < g.wiring.wires
  pub near : (w : ℕ) → In touched w → slice_index labels w < far
  pub once : IsOnce touched
  pub best_is : IsBest g n labels best

-- what a search leaves: each wire with a label was spread from, or the best label isn't worse
pub record IsSearched (g : Network) (n : NetRules) (pin : ℕ) (labels : List ℕ) (best : ℕ) : Type 0 where
  pub labels_len : length labels ≡ g.wiring.wires
  pub at_pin : slice_index labels pin ≡ 0
  pub outside : (w : ℕ) → w < g.wiring.wires → slice_index labels w < far → In n.tree w → ⊥
  pub stands : (w : ℕ) → w < g.wiring.wires → slice_index labels w < far → Stands g n pin labels w (slice_index labels w)
  pub best_is : IsBest g n labels best
  pub over : (w : ℕ) → w < g.wiring.wires → slice_index labels w < far
      → Spread g n labels best w (slice_index labels w) ⊎ ((best < far) × (best ≤ slice_index labels w))

-- how much is left to do at most: labels that fall, and wires that wait
abbrev pub work : List ℕ → List (ℕ × ℕ) → ℕ
work labels queue = sum labels + sum labels + length queue

-- what a step changes: labels fall, the best label falls, and there is no more to do than before
pub record Moves (labels : List ℕ) (queue : List (ℕ × ℕ)) (touched : List ℕ) (best : ℕ)
    (new_labels : List ℕ) (new_queue : List (ℕ × ℕ)) (new_touched : List ℕ) (new_best : ℕ) : Type 0 where
  pub labels_fall : (w : ℕ) → slice_index new_labels w ≤ slice_index labels w
  pub best_falls : new_best ≤ best
  pub less_work : work new_labels new_queue ≤ work labels queue
  pub more_touched : length touched ≤ length new_touched
