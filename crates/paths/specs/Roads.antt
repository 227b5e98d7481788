-- What a search for a path goes by: arcs that may be taken from wire to wire, and wires that are linked already.
use Rattle.std.specs.Prelude.{ℕ}
use Rattle.std.specs.declared.cmp.Ordering.{Ordering}
use Rattle.links.specs.Links.{Reaches}

-- Arcs of some kind, each from its source to its sink, in an order, and which of them may be taken; and from which
-- wire to which a link leads. A wire is a number.
pub record Roads (A : Type 0) : Type 1 where
  pub source : A → ℕ
  pub sink : A → ℕ
  pub cmp : A → A → Ordering
  pub IsArc : A → Type 0
  pub MayTake : A → Type 0
  pub Linked : ℕ → ℕ → Type 0

-- x is w, or is reached from it along links
abbrev pub IsBelow : {A : Type 0} → Roads A → ℕ → ℕ → Type 0
IsBelow roads w x = Reaches roads.Linked w x
