-- Cuts: what shows that there is no path. (Our own.)
use Rattle.std.specs.Prelude.{◌≡◌, ℕ, List, ◌↔◌}
use Rattle.std.specs.List.Sorted.{IsStrictlyIncreasing}
use Rattle.words.specs.Members.{In}
use Rattle.paths.specs.Roads.{Roads}

-- A cut between a tree and a pin: a set of wires that holds the tree, doesn't hold the pin, holds with each wire
-- the wires to which a link leads from it, and with the source of an arc that may be taken its sink.
pub record IsCut {A : Type 0} (roads : Roads A) (InTree : ℕ → Type 0) (inside : List ℕ) (pin : ℕ) : Type 0 where
  pub tree : (w : ℕ) → InTree w → In inside w
  pub pin_out : In inside pin → ⊥
  pub links : (w x : ℕ) → In inside w → roads.Linked w x → In inside x
  pub arcs : (a : A) → roads.MayTake a → In inside (roads.source a) → In inside (roads.sink a)

-- the least cut lies in every other
pub record IsLeastCut {A : Type 0} (roads : Roads A) (InTree : ℕ → Type 0) (inside : List ℕ) (pin : ℕ) : Type 0 where
  pub cut : IsCut roads InTree inside pin
  pub least : (other : List ℕ) → IsCut roads InTree other pin → (w : ℕ) → In inside w → In other w

-- a wire of the rim: it lies outside, and is the sink of an arc whose source lies inside
pub record IsInRim {A : Type 0} (roads : Roads A) (inside : List ℕ) (w : ℕ) : Type 0 where
  pub outside : In inside w → ⊥
  pub arc : A
  pub is_arc : roads.IsArc arc
  pub from : In inside (roads.source arc)
  pub to : roads.sink arc ≡ w

-- the least cut and its rim, both in wire order, each wire once
pub record IsBlockedBy {A : Type 0} (roads : Roads A) (InTree : ℕ → Type 0) (inside rim : List ℕ) (pin : ℕ) : Type 0 where
  pub least : IsLeastCut roads InTree inside pin
  pub inside_in_order : IsStrictlyIncreasing inside
  pub rim_members : (w : ℕ) → In rim w ↔ IsInRim roads inside w
  pub rim_in_order : IsStrictlyIncreasing rim
