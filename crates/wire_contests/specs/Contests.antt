-- Rows of drivers, and what contests a wire. (Our own.)
use Rattle.std.specs.Prelude.{◌≡◌, ℕ, ◌<◌, ◌↔◌, Bool, true, false, List, [], ◌∷◌, length, get_or, Option, Some, None, nat_lt, ◌==◌, ◌||◌, if◌then◌else◌}
use Rattle.std.specs.Ordering.{nat_cmp}
use Rattle.words.specs.Members.{In}
use Rattle.links.specs.Links.{Routing, Drives}
use Rattle.fabric.specs.InOrder.{IsRising}
use Rattle.design_checks.specs.Checks.{IsLeast}
use Rattle.design_checks.specs.RoutingChecks.{IsContested, AreTwoLeast}
use Rattle.wire_contests.specs.declared.contest.Contest.{Contest}

-- the row of a wire has its drivers
abbrev pub IsRowOf : Routing → ℕ → List ℕ → Type 0
IsRowOf r w row = (x : ℕ) → Drives r x w ↔ In row x

-- the rows are those of the drivers of a routing
abbrev pub HasDrivers : Routing → List (List ℕ) → Type 0
HasDrivers r rows = (w : ℕ) → IsRowOf r w (get_or rows w [])

-- each row is in order, and each wire of it has a row
pub record AreDriverRows (rows : List (List ℕ)) : Type 0 where
  pub rising : (w : ℕ) → IsRising nat_cmp (get_or rows w [])
  pub within : (w x : ℕ) → In (get_or rows w []) x → x < length rows

-- the wire is the least that isn't clean, with the two least that drive it
pub record IsContest (r : Routing) (c : Contest) : Type 0 where
  pub least : IsLeast nat_cmp (IsContested r) c.wire
  pub two : AreTwoLeast r c.wire c.first c.second

-- a wire has a feed
abbrev pub is_there : Option ℕ → Bool
is_there (Some c) = true
is_there None = false

abbrev pub is_fed : List (Option ℕ) → ℕ → Bool
is_fed feeds w = is_there (get_or feeds w None)

-- the first of a list, and the second one
abbrev pub first_of : List ℕ → Option ℕ
first_of [] = None
first_of (x ∷ xs) = Some x

abbrev pub second_of : List ℕ → Option ℕ
second_of [] = None
second_of (x ∷ xs) = first_of xs

-- a cell output beside its first two counting drivers
abbrev pub contest_beside : ℕ → ℕ → Option ℕ → Contest
contest_beside w x None = if nat_lt w x then record { wire = w; first = w; second = x } else record { wire = w; first = x; second = w }
contest_beside w x (Some y) =
    if nat_lt w x then record { wire = w; first = w; second = x }
    else if (x == w) || nat_lt y w then record { wire = w; first = x; second = y }
    else record { wire = w; first = x; second = w }

-- what contests a wire with two counting drivers, or a cell output with one
abbrev pub contest_of : ℕ → Bool → Option ℕ → Option ℕ → Option Contest
contest_of w output None second = None
contest_of w true (Some x) second = Some (contest_beside w x second)
contest_of w false (Some x) None = None
contest_of w false (Some x) (Some y) = Some (record { wire = w; first = x; second = y })

-- the answer for a wire: nothing contests it, or this does
abbrev pub Decides : Routing → ℕ → Option Contest → Type 0
Decides r w None = IsContested r w → ⊥
Decides r w (Some c) = (c.wire ≡ w) × (IsContested r w × AreTwoLeast r w c.first c.second)
