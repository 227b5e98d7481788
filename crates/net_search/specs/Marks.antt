-- Marks of wires, while what is reached from a tree is gathered.
use Rattle.std.specs.Prelude.{◌≡◌, ℕ, Bool, true, false, List, length, get_or, replicate, ◌⊎◌, if◌then◌else◌}
use Rattle.words.specs.Members.{In}
use Rattle.net_links.specs.Nets.{NetRules}
use Rattle.net_search.specs.declared.reach.Mark.{Mark}
use Rattle.net_search.specs.declared.reach.Mark.TheVariants.{Far, Shut, Open, Inside}

abbrev pub mark_of : List Mark → ℕ → Mark
mark_of marks w = get_or marks w Far

abbrev pub is_inside : Mark → Bool
is_inside Far = false
is_inside Shut = false
is_inside Open = false
is_inside Inside = true

-- the mark of a wire that an arc leads to
abbrev pub asked_mark : Bool → Mark
asked_mark enterable = if enterable then Open else Shut

-- what a mark says of a wire
abbrev pub Knows : NetRules → List ℕ → List ℕ → ℕ → Mark → Type 0
Knows n inside edge w Far = Unit {0}
Knows n inside edge w Shut = In edge w × (n.enterable w ≡ false)
Knows n inside edge w Open = In edge w × (n.enterable w ≡ true)
Knows n inside edge w Inside = In inside w

-- this is the mark, and the wire was met
pub record IsMet (marks : List Mark) (w : ℕ) (mark : Mark) : Type 0 where
  pub is : mark ≡ mark_of marks w
  pub near : mark ≡ Far → ⊥

abbrev pub IsOutside : List Mark → ℕ → Type 0
IsOutside marks w = is_inside (mark_of marks w) ≡ false

abbrev pub AreOutside : List Mark → List ℕ → Type 0
AreOutside marks rim = (w : ℕ) → In rim w → IsOutside marks w

-- the wire is listed, if it isn't inside
abbrev pub Lists : List Mark → List ℕ → ℕ → Type 0
Lists marks rim w = IsOutside marks w → In rim w

-- a wire with a mark is listed
abbrev pub IsListed : List ℕ → List ℕ → List Mark → ℕ → Type 0
IsListed inside edge marks w = (mark_of marks w ≡ Far) ⊎ (In inside w ⊎ In edge w)

-- no wire has a mark
abbrev pub far_marks : ℕ → List Mark
far_marks wires = replicate wires Far

-- the marks of some wires were cleared
pub record Cleared (wires : List ℕ) (old new : List Mark) : Type 0 where
  pub len : length new ≡ length old
  pub clear : (w : ℕ) → In wires w → mark_of new w ≡ Far
  pub either : (w : ℕ) → (mark_of new w ≡ Far) ⊎ (mark_of new w ≡ mark_of old w)
