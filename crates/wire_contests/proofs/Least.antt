-- The least contested wire, and none.
use Rattle.std.proofs.Common.{ℕ, ◌<◌, ◌≤◌, List, [], Some, length, sym, subst, inl, inr, arith}
use Rattle.std.proofs.lemmas.Bool.{cases_lt}
use Rattle.std.proofs.lemmas.List.{get_or_past}
use Rattle.words.specs.Members.{In}
use Rattle.links.specs.Links.{Drives, IsClean, Routing}
use Rattle.links.proofs.Members.{same_number}
use Rattle.design_checks.specs.RoutingChecks.{AreTwoLeast, IsContested}
use Rattle.wire_contests.specs.declared.contest.Contest.{Contest}
use Rattle.wire_contests.specs.Contests.{Decides, HasDrivers, IsContest}
use Rattle.wire_contests.proofs.Deciding.{not_greater}

-- a wire without a row isn't contested
past_clean : (r : Routing) (rows : List (List ℕ)) → HasDrivers r rows → (w : ℕ) → length rows ≤ w → IsContested r w → ⊥
past_clean r rows has w past h =
    let none : (x : ℕ) → Drives r x w → ⊥ = λ x d. subst (λ (row : List ℕ). In row x) (get_or_past rows w [] past) ((has w x).0 d) in
    elim h [ inl pair ↦ none pair.0 pair.1.1.0.0 | inr o ↦ none o.1.0 o.1.1.0 ]

-- where no wire is contested the routing is clean
clean_from : (r : Routing) → ((w : ℕ) → IsContested r w → ⊥) → IsClean r
clean_from r none = record {
  one_driver = λ w x y c d. elim (same_number x y) [ inl e ↦ e | inr n ↦ absurd (none w (inl (x, (y, (c, (d, n)))))) ];
  outputs_undriven = λ w x o c. none w (inr (o, (x, c)));
}

pub all_clean : (r : Routing) (rows : List (List ℕ)) (i : ℕ) → HasDrivers r rows → length rows ≤ i → ((k : ℕ) → k < i → IsContested r k → ⊥) → IsClean r
all_clean r rows i has whole none =
    clean_from r (λ w. elim (cases_lt w i) [ inl l ↦ none w l | inr past ↦ past_clean r rows has w (omega arith) ])

-- the first wire for which the answer is a contest is the least
pub first_is : (r : Routing) (i : ℕ) (c : Contest) → ((k : ℕ) → k < i → IsContested r k → ⊥) → Decides r i (Some c) → IsContest r c
first_is r i c none decides = record {
  least = record {
    has = subst (λ w. IsContested r w) (sym decides.0) decides.1.0;
    least = λ y h. elim (cases_lt y i) [ inl l ↦ absurd (none y l h) | inr k ↦ not_greater c.wire y (let e = decides.0 in omega arith) ];
  };
  two = subst (λ w. AreTwoLeast r w c.first c.second) (sym decides.0) decides.1.1;
}
