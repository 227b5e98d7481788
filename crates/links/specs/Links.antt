-- Wires joined by links. A wire is a number here: the place of its name among the wires of a graph. (Our own.)
use Rattle.std.specs.Prelude.{◌≡◌, ℕ, List}
use Rattle.words.specs.Members.{In}

-- a connection that conducts from a source to a sink
pub record Link : Type 0 where
  pub source : ℕ
  pub sink : ℕ

-- what conducts: all links, and the wires that are the output of a cell, named or not
pub record Routing : Type 0 where
  pub links : List Link
  pub outputs : List ℕ

-- x is a driver of w
abbrev pub Drives : Routing → ℕ → ℕ → Type 0
Drives r x w = In r.links (record { source = x; sink = w })

-- from one to another in none or more steps
pub data Reaches {X : Type 0} (Step : X → X → Type 0) (a : X) : X → Type 0 where
  here : Reaches Step a a
  onto : {b c : X} → Reaches Step a b → Step b c → Reaches Step a c

-- v is w, or is reached from w along links
abbrev pub Below : Routing → ℕ → ℕ → Type 0
Below r w v = Reaches (Drives r) w v

-- c is a cell output from which w is reached along links
pub record Feeds (r : Routing) (c w : ℕ) : Type 0 where
  pub output : In r.outputs c
  pub reach : Below r c w

-- w has a feed
abbrev pub Fed : Routing → ℕ → Type 0
Fed r w = (c : ℕ) × Feeds r c w

-- x is a driver of w that counts: it has a feed. One without a feed doesn't conduct.
abbrev pub Counting : Routing → ℕ → ℕ → Type 0
Counting r x w = Drives r x w × Fed r x

-- no wire has two counting drivers, and no cell output has one
pub record IsClean (r : Routing) : Type 0 where
  pub one_driver : (w x y : ℕ) → Counting r x w → Counting r y w → x ≡ y
  pub outputs_undriven : (w x : ℕ) → In r.outputs w → Counting r x w → ⊥

-- from a wire back along counting drivers, in none or more steps
abbrev pub Upstream : Routing → ℕ → ℕ → Type 0
Upstream r w v = Reaches (λ a b. Counting r b a) w v
